use Rattle.std.proofs.Common.{sym, ap, ◌∙◌}
use Rattle.store.specs.Deques.{first, taken}
use Rattle.two_list.specs.Sides.{list_of}
use Rattle.two_list.specs.Stores.{sides_in}
use Rattle.two_list.proofs.Turning.{last_mirrored}
use Rattle.two_list.proofs.lists.Lists.turn.Goals as goal

pub returns-in-Eject-clause-item : goal.returns-in-Eject-clause-item
returns-in-Eject-clause-item g c =
    let l = c.args.self.now in
    c.take-item-in-Eject.ensures.item
    ∙ ap (λ row. first (list_of (sides_in l row))) c.mirrored-in-Eject.ensures
    ∙ last_mirrored (sides_in l c.args.row)
    ∙ sym (ap (λ d. taken d (list_of (sides_in l c.args.row))) c.in-Eject.is)
