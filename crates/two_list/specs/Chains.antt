-- Lists in list cells: a cell names the place of its item and the cell of the item after it.
use Rattle.std.specs.Prelude.{ℕ, zero, suc, ◌+◌, ◌-◌, cond, List, [], ◌∷◌, ◌++◌, take, drop, nat_lt, slice_index_or}
use Rattle.two_list.specs.declared.rows.ListCell.{ListCell}

abbrev pub cell_at : List ListCell → ℕ → ListCell
cell_at cells i = slice_index_or cells i (record { item = 0; next = 0 })

-- the places of n items, from cell i on
abbrev pub chain : List ListCell → ℕ → ℕ → List ℕ
chain cells i zero = []
chain cells i (suc n) = (cell_at cells i).item ∷ chain cells (cell_at cells i).next n

-- the cell that is n links behind cell i
abbrev pub behind : List ListCell → ℕ → ℕ → ℕ
behind cells i zero = i
behind cells i (suc n) = behind cells (cell_at cells i).next n

-- the items at these places
abbrev pub picked : {T : Type 0} → List T → List ℕ → List T
picked items [] = []
picked items (p ∷ ps) = take 1 (drop p items) ++ picked items ps

-- the cells that a rebuild lays from cell `to` on, for the places from the k-th on: those that stay are linked
-- forwards, and those that go over are linked backwards
abbrev pub rebuilt : ℕ → ℕ → ℕ → List ℕ → List ListCell
rebuilt to stay k [] = []
rebuilt to stay k (p ∷ ps) =
    record { item = p; next = cond (nat_lt k stay) (to + k + 1) (to + k - 1) } ∷ rebuilt to stay (k + 1) ps
