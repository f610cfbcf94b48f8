use Rattle.std.proofs.Common.{◌≡◌, ◌++◌, arith, rules, string_bytes, subst}
use Rattle.std.proofs.lemmas.Grind.{common_steps}
use Rattle.std.proofs.lemmas.Iterator.{YieldsList-from_slice, YieldsList-from_zip}
use Rattle.std.proofs.lemmas.Iterator.Consumers.{YieldsList-end}
use Rattle.std.proofs.lemmas.List.{flat_map_more}
use Rattle.call_text.proofs.answering.write_reports.Goals as goal
use Rattle.call_text.specs.Reports.{reports}

pub loop-line-preserved : goal.loop-line-preserved
loop-line-preserved g c = grind (arith, common_steps, flat_map_more)

pub returns : goal.returns
returns g c =
    subst
    (λ ps. string_bytes c.loop-line.out ≡ string_bytes c.args.out.now ++ reports (g.S.DequeStore.meaning c.args.store.now).versions ps)
    (YieldsList-end (YieldsList-from_zip (YieldsList-from_slice c.args.lines.now (search rules)) (YieldsList-from_slice c.args.answers.now (search rules))) c.loop-line.yielded c.loop-line.line-iterator c.loop-line.yielded_by c.next.result c.next.new.self c.in-None.is c.next.ensures.steps).0
    c.loop-line.invariant
