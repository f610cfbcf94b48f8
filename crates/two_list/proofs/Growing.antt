-- One version more: the credit, and the rows.
use Rattle.std.proofs.Common.{◌≡◌, ℕ, ◌+◌, ◌-◌, ◌*◌, ◌/◌, ◌<◌, ◌≤◌, ◌≢◌, List, length, set, ap, ⊎_elim, le-div_iff_mul-le, div-mul-le_self, arith}
use native.Mathlib.Nat.{add-div_right}
use Rattle.std.proofs.lemmas.Nat.{le-div}
use Rattle.std.proofs.lemmas.List.{get_or-set_same, get_or-set_other}
use Rattle.std.proofs.lemmas.Bool.{cases_lt}
use Rattle.store.specs.Meanings.{least}
use Rattle.two_list.specs.Filling.{Fills, free}
use Rattle.two_list.specs.Stores.{shares_of}
use Rattle.two_list.specs.Tables.{Fitting, RowsFit, no_row, shares}
use Rattle.two_list.specs.declared.lent_table.LentTable.{LentTable}
use Rattle.two_list.specs.declared.lists.Lists.{Lists}
use Rattle.two_list.specs.declared.rows.VersionRow.{VersionRow}
use Rattle.two_list.specs.declared.two_list_store.TwoListStore.{TwoListStore}
use Rattle.two_list.proofs.Filling.{fewer_free}

div_mono : (a b k : ℕ) → 0 < k → a ≤ b → a / k ≤ b / k
div_mono a b k p h = le-div (a / k) b k p (omega (arith, div-mul-le_self a k))

share_lower : (a d k : ℕ) → 0 < k → (a - d) / k ≤ a / k
share_lower a d k p = div_mono (a - d) a k p (omega arith)

share_near : (a d k : ℕ) → 0 < k → d ≤ k → a / k ≤ (a - d) / k + 1
share_near a d k p h = omega (arith, div_mono a ((a - d) + k) k p (omega arith), add-div_right (a - d) {k = k} p)

share_room : (a k : ℕ) → 0 < k → 1 ≤ a / k → k ≤ a
share_room a k p h = let q : 1 * k ≤ a = (le-div_iff_mul-le {k = k} {x = 1} {y = a} p).0 h in omega arith

-- a row more that fits, and cells more
pub rows_more : (rows : List VersionRow) (made linked linked' longest : ℕ) (row : VersionRow) → made < length rows → linked ≤ linked' → RowsFit rows made linked longest → Fitting linked' longest row → RowsFit (set rows made row) (made + 1) linked' longest
rows_more rows made linked linked' longest row h more fits new k below =
    ⊎_elim
    (λ (lt : k < made).
    let other : k ≢ made = omega arith in
    let old = fits k lt in
    rw (get_or-set_other rows made k row no_row other) (omega arith, omega arith, omega arith))
    (λ (le : made ≤ k).
    let e : k ≡ made = omega arith in
    rw (e, get_or-set_same rows made row no_row h) new)
    (cases_lt k made)

module _ {T : Type 0} (s : TwoListStore T) where
  -- a change that is sure finds room in each table
  pub room : s.promised < least (shares_of s) → (0 < free s.versions) × (0 < free s.lists.items) × (s.longest ≤ free s.lists.cells)
  room sure =
      let cells = share_room (free s.lists.cells) s.longest (omega arith) (omega arith) in
      (omega arith, omega arith, omega arith)

  -- with one version more, and a items and b cells, the credit falls by one at most
  pub credit_near : (V : LentTable VersionRow) (l : Lists T) (a b : ℕ) → Fills s.versions 1 V → Fills s.lists.items a l.items → Fills s.lists.cells b l.cells → a ≤ 1 → b ≤ s.longest
      → (least (shares (free V) (free l.items) (free l.cells) s.longest) ≤ least (shares_of s)) × (least (shares_of s) ≤ least (shares (free V) (free l.items) (free l.cells) s.longest) + 1)
  credit_near V l a b versions items cells h k =
      let v = fewer_free s.versions V 1 versions in
      let i = fewer_free s.lists.items l.items a items in
      let c = ap (λ n. n / s.longest) (fewer_free s.lists.cells l.cells b cells) in
      let lower = share_lower (free s.lists.cells) b s.longest (omega arith) in
      let near = share_near (free s.lists.cells) b s.longest (omega arith) k in
      (omega arith, omega arith)
