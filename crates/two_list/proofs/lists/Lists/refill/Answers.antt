use Rattle.std.proofs.Common.{arith}
use Rattle.two_list.proofs.Refilling.{no_rebuild, rebuilt_inside, after_rebuild}
use Rattle.two_list.proofs.lists.Lists.refill.Goals as goal

pub returns-then-row-gt0 : goal.returns-then-row-gt0
returns-then-row-gt0 g c = no_rebuild _ _ c.requires.0 c.if-row-gt0.true

pub invariant_of-self : goal.invariant_of-self
invariant_of-self g c = record { closed = rebuilt_inside _ _ c.requires.0 (omega arith) _ c.rebuild.ensures }

pub returns : goal.returns
returns g c =
    after_rebuild _ _ c.requires.0 (omega arith) _ c.rebuild.ensures _ _ _ (omega arith) c.filled-first.ensures c.filled.ensures
