-- An item that is laid in front.
use Rattle.std.proofs.Common.{◌≡◌, ℕ, suc, ◌+◌, ◌∷◌, ◌++◌, take, drop, set, ap, ◌∙◌, arith}
use Rattle.std.proofs.lemmas.List.{drop-set, get_or-set_same}
use Rattle.store.specs.declared.changes.Change.TheVariants.{Push}
use Rattle.two_list.specs.Chains.{cell_at, chain, picked}
use Rattle.two_list.specs.Tables.{items_of}
use Rattle.two_list.specs.Writes.{Roomy, Turned}
use Rattle.two_list.specs.declared.lists.Lists.{Lists}
use Rattle.two_list.specs.declared.rows.ListCell.{ListCell}
use Rattle.two_list.specs.declared.rows.VersionRow.{VersionRow}
use Rattle.two_list.proofs.Filling.{pushed}
use Rattle.two_list.proofs.Picking.{side_same}

-- the item x and its cell before the front list, in the lists m
pub lays : {T : Type 0} (l m : Lists T) (row : VersionRow) (x : T) (cell : ℕ) → Roomy l row
    → m.items.places.now ≡ set l.items.places.now l.items.filled x → m.items.filled ≡ l.items.filled + 1
    → m.cells.places.now ≡ set l.cells.places.now l.cells.filled (record { item = l.items.filled; next = row.front.cell }) → m.cells.filled ≡ l.cells.filled + 1
    → cell ≡ l.cells.filled
    → Turned l row (Push x) m (record { front = record { cell = cell; length = row.front.length + 1 }; rear = row.rear })
lays {T} l m row x cell able items kept cells linked cell_is =
    let I = l.items.places.now in
    let C = l.cells.places.now in
    let I' = m.items.places.now in
    let C' = m.cells.places.now in
    let to = l.cells.filled in
    let items_more = pushed l.items m.items x items kept in
    let cells_more = pushed l.cells m.cells _ cells linked in
    let new_cell : cell_at C' cell ≡ record { item = l.items.filled; next = row.front.cell } =
    (λ j. cell_at (cells j) (cell_is j)) ∙ get_or-set_same C to _ _ (omega (arith, able.cell_free)) in
    let n : row.front.length + 1 ≡ suc row.front.length = omega arith in
    let front : items_of I' C' (record { cell = cell; length = row.front.length + 1 }) ≡ x ∷ items_of I C row.front =
    ap (λ k. picked I' (chain C' cell k)) n
    ∙ ap (λ (c : ListCell). take 1 (drop c.item I') ++ picked I' (chain C' c.next row.front.length)) new_cell
    ∙ ap (λ q. q ++ items_of I' C' row.front) (ap (λ q. take 1 (drop l.items.filled q)) items ∙ ap (take 1) (drop-set I l.items.filled x (omega (arith, able.item_free))))
    ∙ ap (λ q. x ∷ q) (side_same I I' C C' l.items.filled to row.front.cell row.front.length l.closed items_more.before cells_more.before able.front_starts) in
    let rear : items_of I' C' row.rear ≡ items_of I C row.rear =
    side_same I I' C C' l.items.filled to row.rear.cell row.rear.length l.closed items_more.before cells_more.before able.rear_starts in
    record {
      sides = (λ j. record { front = front j; rear = rear j });
      items_more = items_more;
      cells_more = cells_more;
      front_starts = omega arith;
      rear_starts = omega (arith, able.rear_starts);
    }
