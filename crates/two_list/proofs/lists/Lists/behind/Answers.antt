use Rattle.two_list.proofs.Following.{behind_next}
use Rattle.two_list.proofs.lists.Lists.behind.Goals as goal

pub loop-preserved : goal.loop-preserved
loop-preserved g c = behind_next c.args.self.now c.args.cell c.loop.counter _ _ c.loop.invariant.0 c.loop.invariant.1 c.get-at.ensures
