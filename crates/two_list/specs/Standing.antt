-- What holds of every two-list store, and of any calls one after another.
use Rattle.std.specs.Prelude.{ℕ, zero, suc, ◌≤◌, List, [], ◌∷◌, map, reverse, length, get_or, take, drop, slice_index_or, refl}
use Rattle.std.proofs.Common.{sym, ap, ◌∙◌, arith}
use Rattle.std.proofs.Math.Seq.{take-length}
use Rattle.std.proofs.lemmas.List.{length-append, length-reverse, length-take, take-take}
use Rattle.store.specs.Kinds.{Chains}
use Rattle.store.specs.Meanings.{Sound}
use Rattle.two_list.specs.Chains.{chain, picked}
use Rattle.two_list.specs.Sides.{list_of}
use Rattle.two_list.specs.Stores.{Front, Grows, meaning_of}
use Rattle.two_list.specs.Tables.{Fitting, RowsFit, items_of, sides_of}
use Rattle.two_list.specs.declared.rows.ListCell.{ListCell}
use Rattle.two_list.specs.declared.rows.VersionRow.{VersionRow}
use Rattle.two_list.specs.declared.two_list_store.TwoListStore.{TwoListStore}

front_joined : {A : Type 0} (xs ys zs : List A) → Front xs ys → Front ys zs → Front xs zs
front_joined xs ys zs p q =
    let l : length xs ≤ length ys = omega (arith, length-take (length xs) ys, ap length p) in
    sym (take-take (length xs) (length ys) zs l) ∙ ap (take (length xs)) q ∙ p

module _ {T : Type 0} where
  side_bounded : (I : List T) (C : List ListCell) (i n : ℕ) → length (picked I (chain C i n)) ≤ n
  side_bounded I C i zero = omega arith
  side_bounded I C i (suc n) =
      let cell = get_or C i (record { item = 0; next = 0 }) in
      let one = take 1 (drop cell.item I) in
      let rest = picked I (chain C cell.next n) in
      omega (arith, length-append one rest, length-take 1 (drop cell.item I), side_bounded I C cell.next n)

  row_bounded : (I : List T) (C : List ListCell) (linked longest : ℕ) (r : VersionRow) → Fitting linked longest r → length (list_of (sides_of I C r)) ≤ longest
  row_bounded I C linked longest r fits =
      let front = items_of I C r.front in
      let rear = items_of I C r.rear in
      omega (arith, length-append front (reverse rear), length-reverse rear, side_bounded I C r.front.cell r.front.length, side_bounded I C r.rear.cell r.rear.length)

  rows_bounded : (I : List T) (C : List ListCell) (linked longest : ℕ) (rows : List VersionRow) (made k : ℕ) → RowsFit rows made linked longest → length (slice_index_or (map (λ r. list_of (sides_of I C r)) (take made rows)) k []) ≤ longest
  rows_bounded I C linked longest rows zero k fits = omega arith
  rows_bounded I C linked longest [] (suc made) k fits = omega arith
  rows_bounded I C linked longest (r ∷ rows) (suc made) zero fits = row_bounded I C linked longest r (fits 0 (omega arith))
  rows_bounded I C linked longest (r ∷ rows) (suc made) (suc k) fits = rows_bounded I C linked longest rows made k (λ j h. fits (suc j) (omega arith))

  versions_bounded : (s : TwoListStore T) (v : ℕ) → length (slice_index_or (meaning_of s).versions v []) ≤ s.longest
  versions_bounded s zero = omega arith
  versions_bounded s (suc v) =
      rows_bounded s.lists.items.places.now s.lists.cells.places.now s.lists.cells.filled s.longest s.versions.places.now s.versions.filled v s.fitting

  pub standing : (s : TwoListStore T) → Sound (meaning_of s)
  standing s =
      record {
        opened = omega arith;
        empty = refl;
        covered = s.covered;
        bounded = versions_bounded s;
        tables = omega arith;
      }

  pub growing : Chains (Grows {T = T})
  growing =
      record {
        same = λ s. record { versions = take-length _; items = take-length _; cells = take-length _ };
        joined = λ r s t p q.
            record {
              versions = front_joined _ _ _ p.versions q.versions;
              items = front_joined _ _ _ p.items q.items;
              cells = front_joined _ _ _ p.cells q.cells;
            };
      }
