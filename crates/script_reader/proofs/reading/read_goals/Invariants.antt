use Rattle.std.proofs.Common.{◌≡◌, ◌+◌, ◌-◌, [], vec_items}
use Rattle.script.specs.Reading.{goals_on}
use Rattle.script_reader.specs.Places.{rows_left}
use Rattle.script_reader.proofs.reading.read_goals.Given as goal

abbrev pub invariant-loop-reader : goal.invariant-loop-reader
invariant-loop-reader l =
    goals_on (l.reader.line + 1) l.states (vec_items l.goals) (rows_left l.reader)
    ≡ goals_on (l.initial.reader.line + 1) l.states [] (rows_left l.initial.reader)

abbrev pub decreases-loop-reader : goal.decreases-loop-reader
decreases-loop-reader l = 4096 - l.reader.line
