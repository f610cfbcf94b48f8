-- The items of a side: how many there are, where each is read, what leaves them as they are, and a refill.
use Rattle.std.proofs.Common.{◌≡◌, ℕ, zero, suc, ◌+◌, ◌/◌, ◌<◌, ◌≤◌, min, List, [], ◌∷◌, ◌++◌, reverse, length, get_or, take, drop, sym, refl, ap, ◌∙◌, arith}
use mathlib.Core.List.{reverse-cons}
use Rattle.std.proofs.lemmas.List.{append_assoc, append-nil, reverse-append, length-append, length-drop, length-take, take-append-drop, take_at, drop_at, take-take, drop_more, drop-take}
use Rattle.two_list.specs.Chains.{cell_at, chain, behind, picked}
use Rattle.two_list.specs.Sides.{staying, refilled, refill_cells}
use Rattle.two_list.specs.Tables.{Closed}
use Rattle.two_list.specs.declared.rows.ListCell.{ListCell}
use Rattle.two_list.proofs.Linking.{chain_take, cell_same}

module _ {T : Type 0} where
  one_same : (I I' : List T) (kept p : ℕ) → take kept I' ≡ take kept I → p < kept → take 1 (drop p I') ≡ take 1 (drop p I)
  one_same I I' kept p e h =
      let part : (L : List T) → take 1 (drop p L) ≡ drop p (take (p + 1) (take kept L)) =
      λ L. sym (drop-take p 1 L) ∙ ap (drop p) (sym (take-take (p + 1) kept L (omega arith))) in
      part I' ∙ ap (λ L. drop p (take (p + 1) L)) e ∙ sym (part I)

  -- what is written beyond the filled places leaves a side's items as they are
  pub side_same : (I I' : List T) (C C' : List ListCell) (kept linked i n : ℕ) → Closed C kept linked → take kept I' ≡ take kept I → take linked C' ≡ take linked C → i + min n 1 ≤ linked → picked I' (chain C' i n) ≡ picked I (chain C i n)
  side_same I I' C C' kept linked i zero closed p q s = refl
  side_same I I' C C' kept linked i (suc n) closed p q s =
      let here = closed i (omega arith) in
      let cell = cell_at C i in
      ap (λ (c : ListCell). take 1 (drop c.item I') ++ picked I' (chain C' c.next n)) (cell_same C C' linked i q (omega arith))
      ∙ ap (λ l. l ++ picked I' (chain C' cell.next n)) (one_same I I' kept cell.item p here.0)
      ∙ ap (λ l. take 1 (drop cell.item I) ++ l) (side_same I I' C C' kept linked cell.next n closed p q (omega arith))

  pub length_side : (I : List T) (C : List ListCell) (kept linked i n : ℕ) → Closed C kept linked → kept ≤ length I → i + min n 1 ≤ linked → length (picked I (chain C i n)) ≡ n
  length_side I C kept linked i zero closed h s = refl
  length_side I C kept linked i (suc n) closed h s =
      let here = closed i (omega arith) in
      let p = (cell_at C i).item in
      let j = (cell_at C i).next in
      omega (arith, length-append (take 1 (drop p I)) (picked I (chain C j n)), length-take 1 (drop p I), length-drop p I, length_side I C kept linked j n closed h (omega arith))

  pub one : (I : List T) (p : ℕ) (x : T) → p < length I → take 1 (drop p I) ≡ get_or I p x ∷ []
  one I p x h = ap (take 1) (drop_more I p x h)

  pub read_side : (I : List T) (C : List ListCell) (kept linked i n k : ℕ) (x : T) → Closed C kept linked → kept ≤ length I → i + min n 1 ≤ linked → k < n → x ≡ get_or I (cell_at C (behind C i k)).item x → x ≡ get_or (picked I (chain C i n)) k x
  read_side I C kept linked i zero k x closed h s lt e = absurd (omega arith)
  read_side I C kept linked i (suc n) zero x closed h s lt e =
      let p = (cell_at C i).item in
      let here = closed i (omega arith) in
      e ∙ sym (ap (λ l. get_or (l ++ picked I (chain C (cell_at C i).next n)) 0 x) (one I p x (omega arith)))
  read_side I C kept linked i (suc n) (suc k) x closed h s lt e =
      let p = (cell_at C i).item in
      let j = (cell_at C i).next in
      let here = closed i (omega arith) in
      read_side I C kept linked j n k x closed h (omega arith) (omega arith) e
      ∙ sym (ap (λ l. get_or (l ++ picked I (chain C j n)) (suc k) x) (one I p x (omega arith)))

  picked_append : (I : List T) (ps qs : List ℕ) → picked I (ps ++ qs) ≡ picked I ps ++ picked I qs
  picked_append I [] qs = refl
  picked_append I (p ∷ ps) qs =
      ap (λ l. take 1 (drop p I) ++ l) (picked_append I ps qs) ∙ sym (append_assoc (take 1 (drop p I)) (picked I ps) (picked I qs))

  reverse_one : (l : List T) → reverse (take 1 l) ≡ take 1 l
  reverse_one [] = refl
  reverse_one (x ∷ l) = refl

  picked_reverse : (I : List T) (ps : List ℕ) → picked I (reverse ps) ≡ reverse (picked I ps)
  picked_reverse I [] = refl
  picked_reverse I (p ∷ ps) =
      let x = take 1 (drop p I) in
      ap (picked I) (reverse-cons p ps)
      ∙ picked_append I (reverse ps) (p ∷ [])
      ∙ ap (λ l. picked I (reverse ps) ++ l) (append-nil x)
      ∙ ap (λ l. l ++ x) (picked_reverse I ps)
      ∙ ap (λ l. reverse (picked I ps) ++ l) (sym (reverse_one (drop p I)))
      ∙ sym (reverse-append x (picked I ps))

  -- a rebuild of n places is the refill of their items
  pub refill_places : (I : List T) (C : List ListCell) (kept linked i n : ℕ) → Closed C kept linked → kept ≤ length I → i + min n 1 ≤ linked
      → (picked I (reverse (drop (n / 2) (chain C i n))) ≡ (refilled [] (picked I (chain C i n))).0) × (picked I (take (n / 2) (chain C i n)) ≡ (refilled [] (picked I (chain C i n))).1)
  refill_places I C kept linked i n closed h s =
      let ps = chain C i n in
      let P = picked I ps in
      let stay = n / 2 in
      let same : staying P ≡ stay = ap (λ k. k / 2) (length_side I C kept linked i n closed h s) in
      let first = picked I (take stay ps) in
      let l : length first ≡ stay =
      ap (λ qs. length (picked I qs)) (chain_take C i n stay (omega arith)) ∙ length_side I C kept linked i stay closed h (omega arith) in
      let parts : P ≡ first ++ picked I (drop stay ps) =
      ap (picked I) (sym (take-append-drop stay ps)) ∙ picked_append I (take stay ps) (drop stay ps) in (
        picked_reverse I (drop stay ps)
            ∙ ap reverse (sym (drop_at first (picked I (drop stay ps)) stay l) ∙ ap (drop stay) (sym parts) ∙ ap (λ k. drop k P) (sym same)),
        sym (take_at first (picked I (drop stay ps)) stay l) ∙ ap (take stay) (sym parts) ∙ ap (λ k. take k P) (sym same),
      )

  pub refilled_whole : (near far : List T) → 0 < length near → (refilled near far ≡ (near, far)) × (refill_cells near far ≡ 0)
  refilled_whole [] far h = absurd (omega arith)
  refilled_whole (x ∷ near) far h = (refl, refl)

  pub refilled_empty : (near far : List T) → length near ≡ 0 → (refilled near far ≡ refilled [] far) × (refill_cells near far ≡ length far)
  refilled_empty [] far h = (refl, refl)
  refilled_empty (x ∷ near) far h = absurd (omega arith)
