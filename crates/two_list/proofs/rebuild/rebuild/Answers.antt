use Rattle.two_list.proofs.Linking.{rebuilding_more}
use Rattle.two_list.proofs.rebuild.rebuild.Goals as goal

pub loop-preserved : goal.loop-preserved
loop-preserved c =
    rebuilding_more _ _ _ _ _ _ _ _ _ _ _ c.requires c.loop-test.true c.loop.invariant
    c.get-cell.ensures c.filled.ensures c.filled-in-loop.ensures c.link-next.ensures c.push.ensures.places c.push.ensures.filled
