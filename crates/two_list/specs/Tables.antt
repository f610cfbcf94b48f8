-- The tables of a two-list store: what their rows hold, when they are sound, and their shares of the credit.
use Rattle.std.specs.Prelude.{ℕ, ◌+◌, ◌/◌, ◌<◌, ◌≤◌, min, List, [], ◌∷◌, map, length, slice_index_or}
use Rattle.two_list.specs.Chains.{cell_at, chain, picked}
use Rattle.two_list.specs.Sides.{Sides, list_of}
use Rattle.two_list.specs.declared.rows.ListCell.{ListCell}
use Rattle.two_list.specs.declared.rows.Side.{Side}
use Rattle.two_list.specs.declared.rows.VersionRow.{VersionRow}

abbrev pub no_side : Side
no_side = record { cell = 0; length = 0 }

abbrev pub no_row : VersionRow
no_row = record { front = no_side; rear = no_side }

abbrev pub items_of : {T : Type 0} → List T → List ListCell → Side → List T
items_of items cells s = picked items (chain cells s.cell s.length)

abbrev pub sides_of : {T : Type 0} → List T → List ListCell → VersionRow → Sides T
sides_of items cells r = record { front = items_of items cells r.front; rear = items_of items cells r.rear }

-- the empty list of version 0, and the list of each row
abbrev pub lists : {T : Type 0} → List T → List ListCell → List VersionRow → List (List T)
lists items cells rows = [] ∷ map (λ r. list_of (sides_of items cells r)) rows

-- the first `linked` cells name items among the first `kept` and one another
abbrev pub Closed : List ListCell → ℕ → ℕ → Type 0
Closed cells kept linked = (k : ℕ) → k < linked → ((cell_at cells k).item < kept) × ((cell_at cells k).next < linked)

-- the first `linked` cells name one another
abbrev pub Inside : List ListCell → ℕ → Type 0
Inside cells linked = (k : ℕ) → k < linked → (cell_at cells k).next < linked

-- a side that has items begins at a filled cell, and one that has none not beyond the first free one
abbrev pub Starts : ℕ → Side → Type 0
Starts linked s = s.cell + min s.length 1 ≤ linked

abbrev pub Fitting : ℕ → ℕ → VersionRow → Type 0
Fitting linked longest r =
    Starts linked r.front × Starts linked r.rear × (r.front.length + r.rear.length ≤ longest)

-- the first `made` rows begin at filled cells, and are not too long
abbrev pub RowsFit : List VersionRow → ℕ → ℕ → ℕ → Type 0
RowsFit rows made linked longest = (k : ℕ) → k < made → Fitting linked longest (slice_index_or rows k no_row)

-- a table is used up to 65,000 places
abbrev pub usable : {A : Type 0} → List A → ℕ
usable table = min (length table) 65000

-- free versions, free items, and free list cells divided by the longest length
abbrev pub shares : ℕ → ℕ → ℕ → ℕ → List ℕ
shares versions items cells longest = versions ∷ items ∷ (cells / longest) ∷ []
