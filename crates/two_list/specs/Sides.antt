-- A version as two lists, each with its end item first, and each change on them.
use Rattle.std.specs.Prelude.{ℕ, ◌/◌, List, [], ◌∷◌, ◌++◌, reverse, length, take, drop}
use Rattle.store.specs.declared.changes.Change.{Change}
use Rattle.store.specs.declared.changes.Change.TheVariants.{Push, Inject, Pop, Eject}

pub record Sides (T : Type 0) : Type 0 where
  pub front : List T
  pub rear : List T

abbrev pub list_of : {T : Type 0} → Sides T → List T
list_of s = s.front ++ reverse s.rear

-- how many items of the far list stay there in a rebuild: half of them, rounded down
abbrev pub staying : {T : Type 0} → List T → ℕ
staying far = length far / 2

-- the near and the far list before a take at the near end: where the near one is empty, the half of the far one
-- that is farthest from its end goes over, reversed
abbrev pub refilled : {T : Type 0} → List T → List T → List T × List T
refilled [] far = (reverse (drop (staying far) far), take (staying far) far)
refilled (x ∷ near) far = (x ∷ near, far)

-- the two lists after a change
abbrev pub turned : {T : Type 0} → Change T → Sides T → Sides T
turned (Push x) s = record { front = x ∷ s.front; rear = s.rear }
turned (Inject x) s = record { front = s.front; rear = x ∷ s.rear }
turned Pop s = record { front = drop 1 (refilled s.front s.rear).0; rear = (refilled s.front s.rear).1 }
turned Eject s = record { front = (refilled s.rear s.front).1; rear = drop 1 (refilled s.rear s.front).0 }

-- the list cells that a refill fills: a rebuild fills one for each item
abbrev pub refill_cells : {T : Type 0} → List T → List T → ℕ
refill_cells [] far = length far
refill_cells (x ∷ near) far = 0

-- the list cells that a change fills
abbrev pub cells_filled : {T : Type 0} → Change T → Sides T → ℕ
cells_filled (Push x) s = 1
cells_filled (Inject x) s = 1
cells_filled Pop s = refill_cells s.front s.rear
cells_filled Eject s = refill_cells s.rear s.front

-- the item places that a change fills
abbrev pub items_filled : {T : Type 0} → Change T → ℕ
items_filled (Push x) = 1
items_filled (Inject x) = 1
items_filled Pop = 0
items_filled Eject = 0
