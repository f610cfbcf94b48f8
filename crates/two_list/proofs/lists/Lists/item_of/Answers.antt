use Rattle.two_list.proofs.Following.{side_item}
use Rattle.two_list.proofs.lists.Lists.item_of.Goals as goal

pub returns : goal.returns
returns g c =
    let at = c.behind.ensures in
    side_item c.args.self.now c.args.side _ _ _ _ c.requires.0 c.requires.1 at.0 at.1 c.get-cell.ensures c.get.ensures
