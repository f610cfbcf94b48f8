use Rattle.std.proofs.Common.{arith}
use Rattle.two_list.proofs.Showing.{counted, in_front, in_rear, list_length, row_fits}
use Rattle.two_list.proofs.kind.TwoListStoreDequeStore.item.Goals as goal

pub returns-then-place-row : goal.returns-then-place-row
returns-then-place-row g c =
    in_front c.args.self.now c.args.version _ c.args.place _ _ c.in_ok-length.ensures c.row-row.ensures (omega arith) c.item_of.ensures

pub item_of-requires-2 : goal.item_of-requires-2
item_of-requires-2 g c =
    let s = c.args.self.now in
    let h = counted s c.args.version _ c.in_ok-length.ensures in (
      (row_fits s _ _ h c.row-row.ensures).1,
      omega (arith, list_length s _ _ h c.row-row.ensures, c.in_ok-length.ensures),
    )

pub returns : goal.returns
returns g c =
    in_rear c.args.self.now c.args.version _ c.args.place _ _ c.in_ok-length.ensures c.row-row.ensures (omega arith) (omega arith) c.item_of-2.ensures
