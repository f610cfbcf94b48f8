-- A refill of the front list, and the item that is taken from it.
use Rattle.std.proofs.Common.{◌≡◌, ℕ, suc, ◌+◌, ◌-◌, ◌/◌, ◌<◌, List, ◌∷◌, ◌++◌, length, get_or, take, drop, Some, sym, refl, ap, ◌∙◌, arith}
use Rattle.std.proofs.lemmas.List.{length-take-le}
use Rattle.store.specs.Deques.{first}
use Rattle.store.specs.declared.changes.Change.TheVariants.{Pop}
use Rattle.two_list.specs.Chains.{chain, picked}
use Rattle.two_list.specs.Sides.{Sides, list_of}
use Rattle.two_list.specs.Stores.{sides_in}
use Rattle.two_list.specs.Tables.{Closed, items_of}
use Rattle.two_list.specs.Writes.{Rebuilds, Refills, Roomy, Turned}
use Rattle.two_list.specs.declared.lent_table.LentTable.{LentTable}
use Rattle.two_list.specs.declared.lists.Lists.{Lists}
use Rattle.two_list.specs.declared.rows.ListCell.{ListCell}
use Rattle.two_list.specs.declared.rows.VersionRow.{VersionRow}
use Rattle.two_list.proofs.Linking.{length_chain, places_inside, staying_chain, going_chain, rebuilt_closed}
use Rattle.two_list.proofs.Picking.{one, refill_places, refilled_whole, refilled_empty}
use Rattle.two_list.proofs.Following.{cell_inside, cell_read, length_items_of}
use Rattle.two_list.proofs.Turning.{popped, refilled_some}

module _ {T : Type 0} (l : Lists T) (row : VersionRow) (able : Roomy l row) where
  pub no_rebuild : 0 < row.front.length → Refills l row l row
  no_rebuild h =
      let same = refilled_whole (sides_in l row).front (sides_in l row).rear (omega (arith, length_items_of l row.front able.front_starts)) in
      record {
        sides = (λ j. record { front = (sym same.0 j).0; rear = (sym same.0 j).1 });
        items_more = record { filled = omega arith; size = refl; before = refl };
        cells_more = record { filled = omega (arith, same.1); size = refl; before = refl };
        front_starts = able.front_starts;
        rear_starts = able.rear_starts;
      }

  -- the rear list is rebuilt in the cells C'
  module _ (some : 0 < row.rear.length) (C' : LentTable ListCell) (done : Rebuilds l.cells row.rear (row.rear.length / 2) C') where
    pub rebuilt_inside : Closed C'.places.now l.items.filled C'.filled
    rebuilt_inside =
        let n = row.rear.length in
        let C = l.cells.places.now in
        let to = l.cells.filled in
        rw done.more.filled (
        rebuilt_closed C'.places.now (take to C) to (n / 2) n (chain C row.rear.cell n) done.laid (length-take-le to C (omega arith)) (length_chain C row.rear.cell n)
        C l.items.filled refl l.closed (omega arith) (λ k h. places_inside C l.items.filled to row.rear.cell n k l.closed able.rear_starts h))

    pub after_rebuild : (closed : Closed C'.places.now l.items.filled C'.filled) (first next : ℕ) → row.front.length ≡ 0 → first ≡ l.cells.filled → next ≡ C'.filled
        → Refills l row (record { items = l.items; cells = C'; closed = closed }) (record { front = record { cell = next - 1; length = row.rear.length - row.rear.length / 2 }; rear = record { cell = first; length = row.rear.length / 2 } })
    after_rebuild closed first next none first_is next_is =
        let n = row.rear.length in
        let I = l.items.places.now in
        let C = l.cells.places.now in
        let to = l.cells.filled in
        let ps = chain C row.rear.cell n in
        let more = done.more in
        let P = take to C in
        let p : length P ≡ to = length-take-le to C (omega arith) in
        let q = length_chain C row.rear.cell n in
        let same = refilled_empty (sides_in l row).front (sides_in l row).rear (length_items_of l row.front able.front_starts ∙ none) in
        let places = refill_places I C l.items.filled to row.rear.cell n l.closed (omega arith) able.rear_starts in
        let last : next - 1 ≡ to + n - 1 = omega (arith, more.filled) in
        let near = ap (λ i. picked I (chain C'.places.now i (n - n / 2))) last ∙ ap (picked I) (going_chain C'.places.now P to (n / 2) n ps done.laid p q (omega arith)) ∙ places.0 in
        let far = ap (λ i. picked I (chain C'.places.now i (n / 2))) first_is ∙ ap (picked I) (staying_chain C'.places.now P to (n / 2) n ps done.laid p q (omega arith)) ∙ places.1 in
        record {
          sides = (λ j. record { front = (near ∙ sym (ap (λ (r : List T × List T). r.0) same.0)) j; rear = (far ∙ sym (ap (λ (r : List T × List T). r.1) same.0)) j });
          items_more = record { filled = omega arith; size = refl; before = refl };
          cells_more = record {
            filled = omega (arith, more.filled, same.1, length_items_of l row.rear able.rear_starts);
            size = more.size;
            before = more.before;
          };
          front_starts = omega (arith, more.filled);
          rear_starts = omega (arith, more.filled);
        }

-- the item x in the end cell of the front list, after a refill that left the version r in the lists m
module _ {T : Type 0} (l m : Lists T) (row r : VersionRow) (able : Roomy l row) (some : 0 < row.front.length + row.rear.length) (left : Refills l row m r) where
  pub refilled_front : (0 < r.front.length) × (r.front.cell < m.cells.filled)
  refilled_front =
      let front = length_items_of l row.front able.front_starts in
      let rear = length_items_of l row.rear able.rear_starts in
      let more = refilled_some (sides_in l row).front (sides_in l row).rear (omega arith) in
      let h : 0 < r.front.length = omega (arith, ap (λ (s : Sides T). length s.front) left.sides, length_items_of m r.front left.front_starts) in
      (h, omega (arith, left.front_starts))

  pub took : (end : ListCell) (x : T) → end ≡ get_or m.cells.places.now r.front.cell end → x ≡ get_or m.items.places.now end.item x
      → Turned l row Pop m (record { front = record { cell = end.next; length = r.front.length - 1 }; rear = r.rear }) × (Some x ≡ first (list_of (sides_in l row)))
  took end x got_end got =
      let I = m.items.places.now in
      let C = m.cells.places.now in
      let inside = cell_inside m r.front.cell end refilled_front.1 got_end in
      let rest = items_of I C (record { cell = end.next; length = r.front.length - 1 }) in
      let n : r.front.length ≡ suc (r.front.length - 1) = omega (arith, refilled_front.0) in
      let split : items_of I C r.front ≡ x ∷ rest =
      ap (λ k. picked I (chain C r.front.cell k)) n
      ∙ ap (λ (c : ListCell). take 1 (drop c.item I) ++ picked I (chain C c.next (r.front.length - 1))) (sym (cell_read m r.front.cell end refilled_front.1 got_end))
      ∙ ap (λ q. q ++ rest) (one I end.item x (omega arith))
      ∙ ap (λ y. y ∷ rest) (sym got) in
      let front = ap (λ (s : Sides T). s.front) left.sides in (
        record {
          sides = (λ j. record { front = (ap (drop 1) (sym split ∙ front)) j; rear = (left.sides j).rear });
          items_more = left.items_more;
          cells_more = left.cells_more;
          front_starts = omega (arith, inside.1);
          rear_starts = left.rear_starts;
        },
        ap first (sym split ∙ front) ∙ popped (sides_in l row),
      )
