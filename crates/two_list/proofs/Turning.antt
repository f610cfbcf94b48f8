-- Each change on the two lists of a version is the change on its list.
use Rattle.std.proofs.Common.{◌≡◌, ℕ, suc, ◌+◌, ◌-◌, ◌<◌, ◌≤◌, List, [], ◌∷◌, ◌++◌, reverse, length, take, drop, sym, refl, ap, ◌∙◌, arith}
use mathlib.Core.List.{reverse-cons}
use Rattle.std.proofs.lemmas.List.{append_assoc, reverse-append, reverse-reverse, length-reverse, length-drop, take-append-drop}
use Rattle.store.specs.Deques.{changed, first, last}
use Rattle.store.specs.declared.changes.Change.{Change}
use Rattle.store.specs.declared.changes.Change.TheVariants.{Push, Inject, Pop, Eject}
use Rattle.two_list.specs.Sides.{Sides, list_of, staying, refilled, turned, refill_cells, cells_filled}

module _ {T : Type 0} where
  -- from the near end, the items stay in their order
  refilled_order : (near far : List T) → (refilled near far).0 ++ reverse (refilled near far).1 ≡ near ++ reverse far
  refilled_order [] far =
      let h = staying far in
      sym (reverse-append (take h far) (drop h far)) ∙ ap reverse (take-append-drop h far)
  refilled_order (x ∷ near) far = refl

  -- a near list without items is left so by a refill only where there are none at all
  pub refilled_some : (near far : List T) → 0 < length near + length far → 0 < length (refilled near far).0
  refilled_some [] far h = omega (arith, length-reverse (drop (staying far) far), length-drop (staying far) far)
  refilled_some (x ∷ near) far h = omega arith

  rest_first : (l r : List T) → 0 < length l → (drop 1 l ++ r ≡ drop 1 (l ++ r)) × (first l ≡ first (l ++ r))
  rest_first [] r h = absurd (omega arith)
  rest_first (x ∷ l) r h = (refl, refl)

  near_take : (near far : List T) → (drop 1 (refilled near far).0 ++ reverse (refilled near far).1 ≡ drop 1 (near ++ reverse far)) × (first (refilled near far).0 ≡ first (near ++ reverse far))
  near_take [] [] = (refl, refl)
  near_take [] (y ∷ far) =
      let r = rest_first (refilled [] (y ∷ far)).0 (reverse (refilled [] (y ∷ far)).1) (refilled_some [] (y ∷ far) (omega arith)) in
      (r.0 ∙ ap (drop 1) (refilled_order [] (y ∷ far)), r.1 ∙ ap first (refilled_order [] (y ∷ far)))
  near_take (x ∷ near) far = (refl, refl)

  last_reverse : (l : List T) → first (reverse l) ≡ last l
  last_reverse [] = refl
  last_reverse (x ∷ []) = refl
  last_reverse (x ∷ y ∷ l) =
      let n : 0 < length (reverse (y ∷ l)) = omega (arith, length-reverse (y ∷ l)) in
      ap first (reverse-cons x (y ∷ l)) ∙ sym (rest_first (reverse (y ∷ l)) (x ∷ []) n).1 ∙ last_reverse (y ∷ l)

  all_but_last : (l : List T) → reverse (drop 1 (reverse l)) ≡ take (length l - 1) l
  all_but_last [] = refl
  all_but_last (x ∷ []) = refl
  all_but_last (x ∷ y ∷ l) =
      let n : 0 < length (reverse (y ∷ l)) = omega (arith, length-reverse (y ∷ l)) in
      let m : ◌≡◌ {A = ℕ} (suc (length (y ∷ l) - 1)) (length (x ∷ y ∷ l) - 1) = omega arith in
      ap (λ k. reverse (drop 1 k)) (reverse-cons x (y ∷ l))
      ∙ ap reverse (sym (rest_first (reverse (y ∷ l)) (x ∷ []) n).0)
      ∙ reverse-append (drop 1 (reverse (y ∷ l))) (x ∷ [])
      ∙ ap (λ k. x ∷ k) (all_but_last (y ∷ l))
      ∙ ap (λ k. take k (x ∷ y ∷ l)) m

  -- the list, seen from the rear
  mirrored : (front rear : List T) → reverse (rear ++ reverse front) ≡ front ++ reverse rear
  mirrored front rear = reverse-append rear (reverse front) ∙ ap (λ l. l ++ reverse rear) (reverse-reverse front)

  pub turned_list : (c : Change T) (s : Sides T) → list_of (turned c s) ≡ changed c (list_of s)
  turned_list (Push x) s = refl
  turned_list (Inject x) s = ap (λ l. s.front ++ l) (reverse-cons x s.rear) ∙ sym (append_assoc s.front (reverse s.rear) (x ∷ []))
  turned_list Pop s = (near_take s.front s.rear).0
  turned_list Eject s =
      let r = refilled s.rear s.front in
      sym (mirrored r.1 (drop 1 r.0))
      ∙ ap reverse (near_take s.rear s.front).0
      ∙ ap (λ l. reverse (drop 1 l)) (sym (mirrored s.rear s.front))
      ∙ all_but_last (list_of s)

  pub popped : (s : Sides T) → first (refilled s.front s.rear).0 ≡ first (list_of s)
  popped s = (near_take s.front s.rear).1

  pub last_mirrored : (s : Sides T) → first (s.rear ++ reverse s.front) ≡ last (list_of s)
  last_mirrored s = ap first (sym (mirrored s.rear s.front)) ∙ last_reverse (list_of s)

  refill_least : (near far : List T) (longest : ℕ) → length near + length far ≤ longest → refill_cells near far ≤ longest
  refill_least [] far longest h = omega arith
  refill_least (x ∷ near) far longest h = omega arith

  pub cells_bounded : (c : Change T) (s : Sides T) (longest : ℕ) → 1 ≤ longest → length s.front + length s.rear ≤ longest → cells_filled c s ≤ longest
  cells_bounded (Push x) s longest some h = some
  cells_bounded (Inject x) s longest some h = some
  cells_bounded Pop s longest some h = refill_least s.front s.rear longest h
  cells_bounded Eject s longest some h = refill_least s.rear s.front longest (omega arith)
