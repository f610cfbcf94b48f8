use Rattle.std.proofs.Common.{◌≡◌, ◌+◌, ◌-◌, []}
use Rattle.script.specs.Reading.{rules_on}
use Rattle.script.specs.Scripts.{rule_contents}
use Rattle.script_reader.specs.Places.{rows_left}
use Rattle.script_reader.proofs.reading.read_rules.Given as goal

abbrev pub invariant-loop-reader : goal.invariant-loop-reader
invariant-loop-reader l =
    rules_on (l.reader.line + 1) l.states (rule_contents l.rules) (rows_left l.reader)
    ≡ rules_on (l.initial.reader.line + 1) l.states [] (rows_left l.initial.reader)

abbrev pub decreases-loop-reader : goal.decreases-loop-reader
decreases-loop-reader l = 4096 - l.reader.line
