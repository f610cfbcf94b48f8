use Rattle.std.proofs.Common.{vec_items, rules}
use Rattle.script.proofs.Laws.{rows_sound}
use Rattle.script.specs.Contents.{content_of}
use Rattle.script.specs.Reading.{read_rows}
use Rattle.script_reader.specs.Places.{rows_left}
use Rattle.script_reader.proofs.ReadLines.{fields_behind}
use Rattle.script_reader.proofs.reading.read_script.Goals as goal

pub invariant_of-result : goal.invariant_of-result
unfolding read_rows
invariant_of-result c =
    let head = c.in_ok-head.head in
    let start = c.in_ok-start.start in
    let all = content_of head.states head.width head.depth start.state (vec_items start.marks) (vec_items c.in_ok-goals.goals) (vec_items c.in_ok-rules.rules) in
    record { lawful = rows_sound (rows_left c.args.reader) all (search (rules, fields_behind)) }

pub returns-in_err-rules : goal.returns-in_err-rules
unfolding read_rows
returns-in_err-rules c = search (rules, fields_behind)
