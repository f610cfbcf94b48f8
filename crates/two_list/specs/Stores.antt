-- What a two-list store means, and what it promises of every call and of an accepted change.
use Rattle.std.specs.Prelude.{◌≡◌, ℕ, zero, suc, ◌+◌, ◌≤◌, min, max, List, [], ◌∷◌, length, take, slice_index_or}
use Rattle.store.specs.Meanings.{Meaning}
use Rattle.store.specs.declared.changes.Change.{Change}
use Rattle.two_list.specs.Filling.{free}
use Rattle.two_list.specs.Sides.{Sides, turned, cells_filled, items_filled}
use Rattle.two_list.specs.Tables.{no_row, sides_of, lists, usable, shares}
use Rattle.two_list.specs.declared.lists.Lists.{Lists}
use Rattle.two_list.specs.declared.rows.ListCell.{ListCell}
use Rattle.two_list.specs.declared.rows.VersionRow.{VersionRow}
use Rattle.two_list.specs.declared.two_list_store.TwoListStore.{TwoListStore}

-- the filled part of each table
abbrev pub made_rows : {T : Type 0} → TwoListStore T → List VersionRow
made_rows s = take s.versions.filled s.versions.places.now

abbrev pub kept_items : {T : Type 0} → TwoListStore T → List T
kept_items s = take s.lists.items.filled s.lists.items.places.now

abbrev pub linked_cells : {T : Type 0} → TwoListStore T → List ListCell
linked_cells s = take s.lists.cells.filled s.lists.cells.places.now

abbrev pub row_at : {T : Type 0} → TwoListStore T → ℕ → VersionRow
row_at s zero = no_row
row_at s (suc k) = slice_index_or s.versions.places.now k no_row

-- the two lists of a version
abbrev pub sides_in : {T : Type 0} → Lists T → VersionRow → Sides T
sides_in l r = sides_of l.items.places.now l.cells.places.now r

abbrev pub sides_at : {T : Type 0} → TwoListStore T → ℕ → Sides T
sides_at s v = sides_in s.lists (row_at s v)

abbrev pub shares_of : {T : Type 0} → TwoListStore T → List ℕ
shares_of s = shares (free s.versions) (free s.lists.items) (free s.lists.cells) s.longest

abbrev pub meaning_of : {T : Type 0} → TwoListStore T → Meaning T
meaning_of s =
    record {
      versions = lists s.lists.items.places.now s.lists.cells.places.now (made_rows s);
      longest = s.longest;
      number = s.number;
      promised = s.promised;
      shares = shares_of s;
    }

-- a store over these tables that has just been opened
abbrev pub opened : {T : Type 0} → List VersionRow → List T → List ListCell → ℕ → ℕ → Meaning T
opened versions items cells longest number =
    record {
      versions = [] ∷ [];
      longest = longest;
      number = number;
      promised = 0;
      shares = shares (usable versions) (usable items) (usable cells) longest;
    }

-- it lies over these tables as they are, and none of their places is filled
pub record Opens {T : Type 0} (versions : List VersionRow) (items : List T) (cells : List ListCell) (longest number : ℕ) (s : TwoListStore T) : Type 0 where
  pub meaning : meaning_of s ≡ opened versions items cells (min (max longest 1) 1000) number
  pub versions_lent : s.versions.places.now ≡ versions
  pub items_lent : s.lists.items.places.now ≡ items
  pub cells_lent : s.lists.cells.places.now ≡ cells
  pub none_made : s.versions.filled ≡ 0
  pub none_kept : s.lists.items.filled ≡ 0
  pub none_linked : s.lists.cells.filled ≡ 0

-- what stood before stands in front of what stands after
abbrev pub Front : {A : Type 0} → List A → List A → Type 0
Front xs ys = take (length xs) ys ≡ xs

-- no filled place of any table is altered
pub record Grows {T : Type 0} (s t : TwoListStore T) : Type 0 where
  pub versions : Front (made_rows s) (made_rows t)
  pub items : Front (kept_items s) (kept_items t)
  pub cells : Front (linked_cells s) (linked_cells t)

-- change c on version v: the two lists of the new version, those of every older one, and the places filled
pub record Turns {T : Type 0} (s : TwoListStore T) (v : ℕ) (c : Change T) (t : TwoListStore T) : Type 0 where
  pub new : sides_at t (s.versions.filled + 1) ≡ turned c (sides_at s v)
  pub old : (w : ℕ) → w ≤ s.versions.filled → sides_at t w ≡ sides_at s w
  pub versions : t.versions.filled ≡ s.versions.filled + 1
  pub items : t.lists.items.filled ≡ s.lists.items.filled + items_filled c
  pub cells : t.lists.cells.filled ≡ s.lists.cells.filled + cells_filled c (sides_at s v)
  -- never more list cells than the longest length
  pub most : t.lists.cells.filled ≤ s.lists.cells.filled + s.longest
