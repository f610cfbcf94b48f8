use Rattle.std.proofs.Common.{◌+◌, vec_items, sym, ◌∙◌, rules}
use Rattle.std.proofs.lemmas.Result.{err_from_is_err_and}
use Rattle.script_reader.specs.Places.{rows_left}
use Rattle.script_reader.proofs.Following.{goals_refused, goals_end}
use Rattle.script_reader.proofs.reading.read_goals.Goals as goal

pub returns-in_err-goal : goal.returns-in_err-goal
returns-in_err-goal c =
    let refused = goals_refused (c.loop-reader.reader.line + 1) c.args.states (vec_items c.loop-reader.goals) (rows_left c.loop-reader.reader) c.in_err-goal.field-0.0 (sym c.loop-reader-test.ensures) (search (rules, c.in_err-goal.was)) in
    let p = err_from_is_err_and c.from_residual.result c.from_residual.ensures.1 in
    rw (p.1, p.2) (sym c.loop-reader.invariant ∙ refused)

pub returns : goal.returns
returns c = search (rules, goals_end)
