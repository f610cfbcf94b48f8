use Rattle.std.proofs.Common.{set, ap, ◌∙◌}
use Rattle.two_list.proofs.Laying.{lays}
use Rattle.two_list.proofs.lists.Lists.lay.Goals as goal

pub returns : goal.returns
returns g c =
    let l = c.args.self.now in
    let item = c.push-item.ensures in
    let cell = c.push-cell.ensures in
    lays l _ _ _ _ c.requires item.places item.filled
    (cell.places ∙ ap (λ p. set l.cells.places.now l.cells.filled (record { item = p; next = c.args.row.front.cell })) item.place) cell.filled cell.place
