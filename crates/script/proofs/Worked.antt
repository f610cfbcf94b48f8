-- The worked texts are refused as they say, by computation.
use Rattle.std.proofs.Common.{refl}
use Rattle.script.specs.Claims.{Worked}
use Rattle.script.specs.Fields.{numeral_in, number_in, state_in, marks_in, acts_in}
use Rattle.script.specs.Reading.{due, head_of, start_of, goal_of, rule_of, read_rows, reading}
use Rattle.script.specs.Tables.{table}

pub worked : Worked
unfolding reading read_rows table head_of start_of goal_of rule_of due numeral_in number_in state_in marks_in acts_in
worked = (refl, refl, refl)
