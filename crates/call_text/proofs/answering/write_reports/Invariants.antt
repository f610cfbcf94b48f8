use Rattle.std.proofs.Common.{◌≡◌, ◌++◌, map, string_bytes}
use Rattle.call_text.proofs.answering.write_reports.Given as goal
use Rattle.call_text.specs.Reports.{reports}

abbrev pub invariant-loop-line : goal.invariant-loop-line
invariant-loop-line g l =
    string_bytes l.out ≡ string_bytes l.initial.out ++ reports (g.S.DequeStore.meaning l.store).versions (map (λ p. (p.0.now, p.1.now)) l.yielded)
