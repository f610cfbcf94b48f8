-- The version's row is turned, and the row that this leaves is one version more.
use Rattle.std.proofs.Common.{◌+◌, refl, sym, ap, ◌∙◌}
use Rattle.store.specs.Deques.{taken}
use Rattle.two_list.proofs.Changing.{Adds, asked, roomy, still_kept, finished}
use Rattle.two_list.proofs.Showing.{list_at}
use Rattle.two_list.proofs.kind.TwoListStoreDequeStore.make.Goals as goal

pub turn-taken-requires : goal.turn-taken-requires
turn-taken-requires g c = roomy c.args.self.now c.args.version _ c.requires _ c.row-row.ensures

pub invariant_of-self : goal.invariant_of-self
invariant_of-self g c =
    let s = c.args.self.now in
    let kept = still_kept s c.args.version _ c.requires _ c.row-row.ensures _ _ c.turn-taken.ensures.lists c.push.new.self c.push.ensures.places c.push.ensures.filled in
    record { bounded = s.bounded; covered = kept.0; fitting = kept.1 }

pub returns : goal.returns
returns g c =
    let s = c.args.self.now in
    let v = c.args.version in
    let row_is = c.row-row.ensures in
    let adds : Adds s c.turn-taken.result.0 _ = record { rows = c.push.ensures.places; made = c.push.ensures.filled; longest = refl; number = refl; promised = refl } in
    let done = finished s v _ c.requires _ row_is _ _ c.turn-taken.ensures.lists adds _ (ap (λ n. n + 1) c.push.ensures.place) in
    record {
      answer = (c.turn-taken.ensures.item ∙ ap (taken c.args.change.now) (sym (list_at s v _ (asked s v _ c.requires) row_is)), done.0);
      kind = done.1;
    }
