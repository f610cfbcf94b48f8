-- What the functions that write the lists ask, and what they leave.
use Rattle.std.specs.Prelude.{◌≡◌, ℕ, ◌+◌, ◌<◌, ◌≤◌, ◌++◌, take}
use Rattle.store.specs.declared.changes.Change.{Change}
use Rattle.store.specs.declared.changes.Change.TheVariants.{Push, Inject, Pop, Eject}
use Rattle.two_list.specs.Chains.{chain, rebuilt}
use Rattle.two_list.specs.Filling.{Fills, free}
use Rattle.two_list.specs.Sides.{Sides, refilled, refill_cells, turned, cells_filled, items_filled}
use Rattle.two_list.specs.Stores.{sides_in}
use Rattle.two_list.specs.Tables.{Inside, Starts}
use Rattle.two_list.specs.declared.lent_table.LentTable.{LentTable}
use Rattle.two_list.specs.declared.lists.Lists.{Lists}
use Rattle.two_list.specs.declared.rows.ListCell.{ListCell}
use Rattle.two_list.specs.declared.rows.Side.{Side}
use Rattle.two_list.specs.declared.rows.VersionRow.{VersionRow}

-- a list of which so many items can stay in a rebuild, with free cells for all of them
pub record Rebuildable (cells : LentTable ListCell) (far : Side) (stay : ℕ) : Type 0 where
  pub inside : Inside cells.places.now cells.filled
  pub starts : Starts cells.filled far
  pub part : stay ≤ far.length
  pub room : far.length ≤ free cells

-- the cells after its rebuild
pub record Rebuilds (cells : LentTable ListCell) (far : Side) (stay : ℕ) (cells' : LentTable ListCell) : Type 0 where
  pub more : Fills cells far.length cells'
  pub laid : take (cells.filled + far.length) cells'.places.now ≡ take cells.filled cells.places.now ++ rebuilt cells.filled stay 0 (chain cells.places.now far.cell far.length)

-- a version of these lists, with free places for any change of it
pub record Roomy {T : Type 0} (l : Lists T) (row : VersionRow) : Type 0 where
  pub front_starts : Starts l.cells.filled row.front
  pub rear_starts : Starts l.cells.filled row.rear
  pub short : row.front.length + row.rear.length ≤ 1000
  pub item_free : 0 < free l.items
  pub cell_free : 0 < free l.cells
  pub cells_free : row.front.length + row.rear.length ≤ free l.cells

-- a version of n items has what a change takes
abbrev pub Enough : {T : Type 0} → Change T → ℕ → Type 0
Enough (Push x) n = Unit {0}
Enough (Inject x) n = Unit {0}
Enough Pop n = 0 < n
Enough Eject n = 0 < n

-- the lists l' with so many items and cells more, and a version there with these two lists
pub record Leaves {T : Type 0} (l : Lists T) (two : Sides T) (items cells : ℕ) (l' : Lists T) (row : VersionRow) : Type 0 where
  pub sides : sides_in l' row ≡ two
  pub items_more : Fills l.items items l'.items
  pub cells_more : Fills l.cells cells l'.cells
  pub front_starts : Starts l'.cells.filled row.front
  pub rear_starts : Starts l'.cells.filled row.rear

-- a refill before a take from the front
abbrev pub Refills : {T : Type 0} → Lists T → VersionRow → Lists T → VersionRow → Type 0
Refills l row l' row' =
    Leaves
    l
    (record {
      front = (refilled (sides_in l row).front (sides_in l row).rear).0;
      rear = (refilled (sides_in l row).front (sides_in l row).rear).1;
    })
    0
    (refill_cells (sides_in l row).front (sides_in l row).rear)
    l'
    row'

-- a change
abbrev pub Turned : {T : Type 0} → Lists T → VersionRow → Change T → Lists T → VersionRow → Type 0
Turned l row c l' row' =
    Leaves l (turned c (sides_in l row)) (items_filled c) (cells_filled c (sides_in l row)) l' row'
