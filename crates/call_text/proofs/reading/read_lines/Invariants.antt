use Rattle.std.proofs.Common.{length, vec_items}
use Rattle.call_text.proofs.Lines.{Reached}
use Rattle.call_text.proofs.reading.read_lines.Given as goal

abbrev pub invariant-loop-first : goal.invariant-loop-first
invariant-loop-first l = Reached l.text l.opening (vec_items l.lines) l.rest

abbrev pub decreases-loop-first : goal.decreases-loop-first
decreases-loop-first l = length l.rest
