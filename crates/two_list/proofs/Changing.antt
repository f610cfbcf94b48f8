-- A change on a version: what it asks, and the store with the new version's row.
use Rattle.std.proofs.Common.{◌≡◌, ℕ, zero, suc, ◌+◌, ◌-◌, ◌≤◌, ◌≢◌, List, [], ◌∷◌, ◌++◌, map, reverse, length, get_or, take, set, sym, refl, ap, ◌∙◌, arith}
use Rattle.std.proofs.lemmas.List.{length-append, length-reverse, length-drop, length_push, length-take, length-take-le, map_push, take_more_set, take-take, get_or-set_same, get_or-set_other}
use Rattle.store.specs.Changes.{Fit, Ready, Made}
use Rattle.store.specs.Deques.{changed}
use Rattle.store.specs.Meanings.{list_of_version, least}
use Rattle.store.specs.declared.changes.Change.{Change}
use Rattle.store.specs.declared.changes.Change.TheVariants.{Push, Inject, Pop, Eject}
use Rattle.two_list.specs.Filling.{Fills, free}
use Rattle.two_list.specs.Sides.{list_of, turned, cells_filled, items_filled}
use Rattle.two_list.specs.Stores.{Front, Grows, Turns, meaning_of, row_at, shares_of, sides_at, sides_in}
use Rattle.two_list.specs.Tables.{Fitting, RowsFit, Starts, items_of, lists, no_row, shares}
use Rattle.two_list.specs.Writes.{Enough, Roomy, Turned}
use Rattle.two_list.specs.declared.lent_table.LentTable.{LentTable}
use Rattle.two_list.specs.declared.lists.Lists.{Lists}
use Rattle.two_list.specs.declared.rows.Side.{Side}
use Rattle.two_list.specs.declared.rows.VersionRow.{VersionRow}
use Rattle.two_list.specs.declared.two_list_store.TwoListStore.{TwoListStore}
use Rattle.two_list.proofs.Filling.{pushed}
use Rattle.two_list.proofs.Following.{length_items_of}
use Rattle.two_list.proofs.Growing.{room, credit_near, rows_more}
use Rattle.two_list.proofs.Picking.{side_same}
use Rattle.two_list.proofs.Showing.{count_versions, list_at, list_length, row_fits}
use Rattle.two_list.proofs.Turning.{turned_list, cells_bounded}

-- the store t is the store s with a row more, over other lists
pub record Adds {T : Type 0} (s : TwoListStore T) (row : VersionRow) (t : TwoListStore T) : Type 0 where
  pub rows : t.versions.places.now ≡ set s.versions.places.now s.versions.filled row
  pub made : t.versions.filled ≡ s.versions.filled + 1
  pub longest : t.longest ≡ s.longest
  pub number : t.number ≡ s.number
  pub promised : t.promised ≡ s.promised

-- what versions hold, where more is filled
module _ {T : Type 0} (s : TwoListStore T) (l : Lists T) (a b : ℕ) (items : Fills s.lists.items a l.items) (cells : Fills s.lists.cells b l.cells) where
  old_sides : (r : VersionRow) → Fitting s.lists.cells.filled s.longest r → sides_in l r ≡ sides_in s.lists r
  old_sides r fits =
      let I = s.lists.items.places.now in
      let C = s.lists.cells.places.now in
      let same : (side : Side) → Starts s.lists.cells.filled side → items_of l.items.places.now l.cells.places.now side ≡ items_of I C side =
      λ side starts. side_same I l.items.places.now C l.cells.places.now s.lists.items.filled s.lists.cells.filled side.cell side.length s.lists.closed items.before cells.before starts in
      (λ j. record { front = same r.front fits.0 j; rear = same r.rear fits.1 j })

  old_lists : (rows : List VersionRow) (made : ℕ) → RowsFit rows made s.lists.cells.filled s.longest → map (λ r. list_of (sides_in l r)) (take made rows) ≡ map (λ r. list_of (sides_in s.lists r)) (take made rows)
  old_lists rows zero fits = refl
  old_lists [] (suc made) fits = refl
  old_lists (r ∷ rows) (suc made) fits =
      let here = old_sides r (fits 0 (omega arith)) in
      let rest = old_lists rows made (λ k h. fits (suc k) (omega arith)) in
      (λ j. list_of (here j) ∷ rest j)

module _ {T : Type 0} (s : TwoListStore T) (v : ℕ) where
  -- a change that fits leaves a list that is not too long
  changed_bounded : (c : Change T) → Fit (meaning_of s) v c → length (list_of_version (meaning_of s) v) ≤ s.longest → length (changed c (list_of_version (meaning_of s) v)) ≤ s.longest
  changed_bounded (Push x) fit h = fit
  changed_bounded (Inject x) fit h = omega (arith, length_push (list_of_version (meaning_of s) v) x, fit)
  changed_bounded Pop fit h = omega (arith, length-drop 1 (list_of_version (meaning_of s) v))
  changed_bounded Eject fit h = omega (arith, length-take (length (list_of_version (meaning_of s) v) - 1) (list_of_version (meaning_of s) v))

  enough_there : (c : Change T) (n : ℕ) → Fit (meaning_of s) v c → length (list_of_version (meaning_of s) v) ≡ n → Enough c n
  enough_there (Push x) n fit h = tt
  enough_there (Inject x) n fit h = tt
  enough_there Pop n fit h = omega (arith, fit)
  enough_there Eject n fit h = omega (arith, fit)

few_items : {T : Type 0} (c : Change T) → items_filled c ≤ 1
few_items (Push x) = omega arith
few_items (Inject x) = omega arith
few_items Pop = omega arith
few_items Eject = omega arith

-- the filled part of a table stands in front of the table's filled part after
front_kept : {A : Type 0} (t t' : LentTable A) (n : ℕ) → Fills t n t' → Front (take t.filled t.places.now) (take t'.filled t'.places.now)
front_kept t t' n more =
    ap (λ m. take m (take t'.filled t'.places.now)) (length-take-le t.filled t.places.now (omega arith)) ∙ take-take t.filled t'.filled t'.places.now (omega (arith, more.filled)) ∙ more.before

module _ {T : Type 0} (s : TwoListStore T) (v : ℕ) (c : Change T) (ready : Ready (meaning_of s) v c) where
  pub asked : v ≤ s.versions.filled
  asked = omega (arith, ready.known, count_versions s)

  module _ (r : VersionRow) (row_is : r ≡ row_at s v) where
    pub roomy : Roomy s.lists r × Enough c (r.front.length + r.rear.length)
    roomy =
        let fits = row_fits s v r asked row_is in
        let free = room s ready.sure in (
          record { front_starts = fits.0; rear_starts = fits.1; short = omega (arith, fits.2); item_free = free.1; cell_free = omega arith; cells_free = omega (arith, fits.2) },
          enough_there s v c _ ready.fit (list_length s v r asked row_is),
        )

    few_cells : cells_filled c (sides_in s.lists r) ≤ s.longest
    few_cells =
        let fits = row_fits s v r asked row_is in
        cells_bounded c (sides_in s.lists r) s.longest (omega arith) (omega (arith, length_items_of s.lists r.front fits.0, length_items_of s.lists r.rear fits.1, fits.2))

    -- the change left the row `row` in the lists l
    module _ (l : Lists T) (row : VersionRow) (done : Turned s.lists r c l row) where
      new_list : list_of (sides_in l row) ≡ changed c (list_of_version (meaning_of s) v)
      new_list = ap list_of done.sides ∙ turned_list c (sides_in s.lists r) ∙ ap (changed c) (sym (list_at s v r asked row_is))

      new_fits : Fitting l.cells.filled s.longest row
      new_fits =
          let two = sides_in l row in
          let old : length (list_of_version (meaning_of s) v) ≤ s.longest = omega (arith, list_length s v r asked row_is, (row_fits s v r asked row_is).2) in (
            done.front_starts,
            done.rear_starts,
            omega (arith, length_items_of l row.front done.front_starts, length_items_of l row.rear done.rear_starts, length-append two.front (reverse two.rear), length-reverse two.rear, ap length new_list, changed_bounded s v c ready.fit old),
          )

      -- the versions V have that row too
      module _ (V : LentTable VersionRow) (rows : V.places.now ≡ set s.versions.places.now s.versions.filled row) (made : V.filled ≡ s.versions.filled + 1) where
        near : (least (shares (free V) (free l.items) (free l.cells) s.longest) ≤ least (shares_of s)) × (least (shares_of s) ≤ least (shares (free V) (free l.items) (free l.cells) s.longest) + 1)
        near = credit_near s V l _ _ (pushed s.versions V row rows made) done.items_more done.cells_more (few_items c) few_cells

        pub still_kept : (s.promised ≤ least (shares (free V) (free l.items) (free l.cells) s.longest)) × RowsFit V.places.now V.filled l.cells.filled s.longest
        still_kept =
            let more = done.cells_more in
            let free = room s ready.sure in (
              omega (arith, near.1, ready.sure),
              rw (rows, made) (rows_more s.versions.places.now s.versions.filled s.lists.cells.filled l.cells.filled s.longest row (omega arith) (omega (arith, more.filled)) s.fitting new_fits),
            )

    -- the store t has those lists and that row
    module _ (t : TwoListStore T) (row : VersionRow) (done : Turned s.lists r c t.lists row) (adds : Adds s row t) where
      t_lists : (meaning_of t).versions ≡ (meaning_of s).versions ++ changed c (list_of_version (meaning_of s) v) ∷ []
      t_lists =
          let V = s.versions.places.now in
          let old = old_lists s t.lists _ _ done.items_more done.cells_more V s.versions.filled s.fitting in
          let free = room s ready.sure in
          let lists_in = lists t.lists.items.places.now t.lists.cells.places.now in
          (λ j. lists_in (take (adds.made j) (adds.rows j)))
          ∙ ap lists_in (take_more_set V s.versions.filled row (omega arith))
          ∙ ap (λ q. [] ∷ q) (map_push (λ x. list_of (sides_in t.lists x)) (take s.versions.filled V) row ∙ (λ j. old j ++ new_list t.lists row done j ∷ []))

      makes : (w : ℕ) → w ≡ s.versions.filled + 1 → Made (meaning_of s) v c s.promised (meaning_of t) w
      makes w e =
          let close = near t.lists row done t.versions adds.rows adds.made in
          let same = ap (shares (free t.versions) (free t.lists.items) (free t.lists.cells)) adds.longest in
          record {
            version = omega (arith, e, count_versions s);
            versions = t_lists;
            longest = adds.longest;
            number = adds.number;
            promised = adds.promised;
            lower = omega (arith, ap least same, close.0);
            near = omega (arith, ap least same, close.1);
          }

      old_row : (w : ℕ) → w ≤ s.versions.filled → row_at t w ≡ row_at s w
      old_row zero h = refl
      old_row (suc k) h =
          let other : k ≢ s.versions.filled = omega arith in
          ap (λ q. get_or q k no_row) adds.rows ∙ get_or-set_other s.versions.places.now s.versions.filled k row no_row other

      new_row : row_at t (s.versions.filled + 1) ≡ row
      new_row =
          let n : s.versions.filled + 1 ≡ suc s.versions.filled = omega arith in
          let free = room s ready.sure in
          ap (row_at t) n ∙ ap (λ q. get_or q s.versions.filled no_row) adds.rows ∙ get_or-set_same s.versions.places.now s.versions.filled row no_row (omega arith)

      turns : Turns s v c t
      turns =
          let same : sides_in s.lists r ≡ sides_at s v = ap (sides_in s.lists) row_is in
          let cells = done.cells_more.filled in
          record {
            new = ap (sides_in t.lists) new_row ∙ done.sides ∙ ap (turned c) same;
            old = λ w h. ap (sides_in t.lists) (old_row w h) ∙ old_sides s t.lists _ _ done.items_more done.cells_more (row_at s w) (row_fits s w (row_at s w) h refl);
            versions = adds.made;
            items = done.items_more.filled;
            cells = cells ∙ ap (λ q. s.lists.cells.filled + cells_filled c q) same;
            most = omega (arith, few_cells);
          }

      grows : Grows s t
      grows =
          record {
            versions = front_kept s.versions t.versions 1 (pushed s.versions t.versions row adds.rows adds.made);
            items = front_kept s.lists.items t.lists.items _ done.items_more;
            cells = front_kept s.lists.cells t.lists.cells _ done.cells_more;
          }

      pub finished : (w : ℕ) → w ≡ s.versions.filled + 1 → Made (meaning_of s) v c s.promised (meaning_of t) w × (Turns s v c t × Grows s t)
      finished w e = (makes w e, (turns, grows))
