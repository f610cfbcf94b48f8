-- Reading the lists: along their cells, and the item at a place.
use Rattle.std.proofs.Common.{◌≡◌, ℕ, ◌+◌, ◌<◌, length, get_or, ap, ◌∙◌, sym, arith}
use Rattle.std.proofs.lemmas.List.{get_or_read}
use Rattle.two_list.specs.Chains.{cell_at, behind}
use Rattle.two_list.specs.Tables.{Starts, items_of}
use Rattle.two_list.specs.declared.lists.Lists.{Lists}
use Rattle.two_list.specs.declared.rows.ListCell.{ListCell}
use Rattle.two_list.specs.declared.rows.Side.{Side}
use Rattle.two_list.proofs.Linking.{behind_more}
use Rattle.two_list.proofs.Picking.{length_side, read_side}

module _ {T : Type 0} (l : Lists T) where
  -- a filled cell that was read
  pub cell_read : (at : ℕ) (cell : ListCell) → at < l.cells.filled → cell ≡ get_or l.cells.places.now at cell → cell ≡ cell_at l.cells.places.now at
  cell_read at cell h got = get_or_read l.cells.places.now at cell (omega arith) got _

  pub cell_inside : (at : ℕ) (cell : ListCell) → at < l.cells.filled → cell ≡ get_or l.cells.places.now at cell → (cell.item < l.items.filled) × (cell.next < l.cells.filled)
  cell_inside at cell h got = rw (cell_read at cell h got) (l.closed at h)

  pub behind_next : (cell k at : ℕ) (c : ListCell) → at ≡ behind l.cells.places.now cell k → at < l.cells.filled → c ≡ get_or l.cells.places.now at c
      → (c.next ≡ behind l.cells.places.now cell (k + 1)) × (c.next < l.cells.filled)
  behind_next cell k at c e h got =
      let C = l.cells.places.now in
      (ap (λ (x : ListCell). x.next) (cell_read at c h got ∙ ap (cell_at C) e) ∙ sym (behind_more C cell k), (cell_inside at c h got).1)

  pub side_item : (side : Side) (place at : ℕ) (c : ListCell) (x : T) → Starts l.cells.filled side → place < side.length → at ≡ behind l.cells.places.now side.cell place → at < l.cells.filled
      → c ≡ get_or l.cells.places.now at c → x ≡ get_or l.items.places.now c.item x
      → x ≡ get_or (items_of l.items.places.now l.cells.places.now side) place x
  side_item side place at c x starts h e within got_cell got =
      let C = l.cells.places.now in
      read_side l.items.places.now C l.items.filled l.cells.filled side.cell side.length place x l.closed (omega arith) starts h
      (got ∙ ap (λ (d : ListCell). get_or l.items.places.now d.item x) (cell_read at c within got_cell ∙ ap (cell_at C) e))

  pub length_items_of : (side : Side) → Starts l.cells.filled side → length (items_of l.items.places.now l.cells.places.now side) ≡ side.length
  length_items_of side starts =
      length_side l.items.places.now l.cells.places.now l.items.filled l.cells.filled side.cell side.length l.closed (omega arith) starts
