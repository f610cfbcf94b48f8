-- Reading a store: the row and the list of a version, and the item at each place.
use Rattle.std.proofs.Common.{◌≡◌, ℕ, zero, suc, ◌+◌, ◌-◌, ◌<◌, ◌≤◌, [], ◌++◌, reverse, length, get_or, Some, None, Ok, sym, refl, ap, ◌∙◌, ⊎_elim, arith}
use Rattle.std.proofs.lemmas.List.{length-append, length-map, length-reverse, length-take-le, get_or_append_left, get_or-append_right, get_or-map, get_or-reverse, get_or-take}
use Rattle.std.proofs.lemmas.Option.{slice_get_read}
use Rattle.std.proofs.lemmas.Bool.{cases_lt, lt-ltb, le-ltb}
use Rattle.std.specs.List.{slice_get}
use Rattle.store.specs.Changes.{Counted, Shown}
use Rattle.store.specs.Meanings.{list_of_version}
use Rattle.store.specs.Questions.{ask, question_refusal}
use Rattle.two_list.specs.Sides.{list_of}
use Rattle.two_list.specs.Stores.{made_rows, meaning_of, row_at, sides_at, sides_in}
use Rattle.two_list.specs.Tables.{Fitting, no_row, items_of}
use Rattle.two_list.specs.declared.rows.VersionRow.{VersionRow}
use Rattle.two_list.specs.declared.two_list_store.TwoListStore.{TwoListStore}
use Rattle.two_list.proofs.Following.{length_items_of}

module _ {T : Type 0} (s : TwoListStore T) where
  fits_at : (v : ℕ) → v ≤ s.versions.filled → Fitting s.lists.cells.filled s.longest (row_at s v)
  fits_at zero h = (omega arith, omega arith, omega arith)
  fits_at (suc k) h = s.fitting k (omega arith)

  pub row_fits : (v : ℕ) (r : VersionRow) → v ≤ s.versions.filled → r ≡ row_at s v → Fitting s.lists.cells.filled s.longest r
  row_fits v r h e = rw e (fits_at v h)

  list_of_lem : (v : ℕ) → v ≤ s.versions.filled → list_of_version (meaning_of s) v ≡ list_of (sides_at s v)
  list_of_lem zero h = refl
  list_of_lem (suc k) h =
      let f = λ (r : VersionRow). list_of (sides_in s.lists r) in
      let l : length (made_rows s) ≡ s.versions.filled = length-take-le s.versions.filled s.versions.places.now (omega arith) in
      get_or-map f (made_rows s) k no_row [] (omega arith) ∙ ap f (get_or-take s.versions.filled s.versions.places.now k no_row (omega arith))

  pub list_at : (v : ℕ) (r : VersionRow) → v ≤ s.versions.filled → r ≡ row_at s v → list_of_version (meaning_of s) v ≡ list_of (sides_in s.lists r)
  list_at v r h e = list_of_lem v h ∙ sym (ap (λ q. list_of (sides_in s.lists q)) e)

  pub count_versions : length (meaning_of s).versions ≡ s.versions.filled + 1
  count_versions =
      omega (arith, length-map (made_rows s) (λ (r : VersionRow). list_of (sides_in s.lists r)), length-take-le s.versions.filled s.versions.places.now (omega arith))

  pub list_length : (v : ℕ) (r : VersionRow) → v ≤ s.versions.filled → r ≡ row_at s v → length (list_of_version (meaning_of s) v) ≡ r.front.length + r.rear.length
  list_length v r h e =
      let fits = row_fits v r h e in
      let sides = sides_in s.lists r in
      omega (arith, ap length (list_at v r h e), length-append sides.front (reverse sides.rear), length-reverse sides.rear, length_items_of s.lists r.front fits.0, length_items_of s.lists r.rear fits.1)

  unknown : (v : ℕ) → s.versions.filled < v → question_refusal (meaning_of s) v ≡ Some (1, 0)
  unknown v h = ap (λ b. ask b 1 None) (le-ltb v (length (meaning_of s).versions) (omega (arith, count_versions)))

  pub known : (v : ℕ) → v ≤ s.versions.filled → question_refusal (meaning_of s) v ≡ None
  known v h = ap (λ b. ask b 1 None) (lt-ltb v (length (meaning_of s).versions) (omega (arith, count_versions)))

  -- a version whose length was answered
  pub counted : (v n : ℕ) → Counted (meaning_of s) v (Ok n) → v ≤ s.versions.filled
  counted v n answer =
      ⊎_elim
      (λ (lt : s.versions.filled < v). let none : Some (1, 0) ≡ None = sym (unknown v lt) ∙ answer.0 in let z : ◌≡◌ {A = ℕ} 0 1 = cc in absurd (omega arith))
      (λ (le : v ≤ s.versions.filled). le)
      (cases_lt s.versions.filled v)

  pub in_front : (v n place : ℕ) (r : VersionRow) (x : T) → Counted (meaning_of s) v (Ok n) → r ≡ row_at s v → place < r.front.length → x ≡ get_or (items_of s.lists.items.places.now s.lists.cells.places.now r.front) place x
      → Shown (meaning_of s) v (slice_get (list_of_version (meaning_of s) v) place) (Ok (Some x))
  in_front v n place r x answer e lt got =
      let h = counted v n answer in
      let F = items_of s.lists.items.places.now s.lists.cells.places.now r.front in
      let R = reverse (items_of s.lists.items.places.now s.lists.cells.places.now r.rear) in
      let n : place < length F = omega (arith, length_items_of s.lists r.front (row_fits v r h e).0) in (
        answer.0,
        sym (ap (λ l. slice_get l place) (list_at v r h e)
            ∙ slice_get_read (F ++ R) (length (F ++ R)) place x refl (omega (arith, length-append F R)) (got ∙ sym (get_or_append_left F R x place n))),
      )

  pub in_rear : (v n place : ℕ) (r : VersionRow) (x : T) → Counted (meaning_of s) v (Ok n) → r ≡ row_at s v → r.front.length ≤ place → place < n → x ≡ get_or (items_of s.lists.items.places.now s.lists.cells.places.now r.rear) (n - 1 - place) x
      → Shown (meaning_of s) v (slice_get (list_of_version (meaning_of s) v) place) (Ok (Some x))
  in_rear v n place r x answer e ge lt got =
      let h = counted v n answer in
      let F = items_of s.lists.items.places.now s.lists.cells.places.now r.front in
      let R = items_of s.lists.items.places.now s.lists.cells.places.now r.rear in
      let k = r.front.length in
      let f : length F ≡ k = length_items_of s.lists r.front (row_fits v r h e).0 in
      let l : length R ≡ r.rear.length = length_items_of s.lists r.rear (row_fits v r h e).1 in
      let total : n ≡ k + length R = omega (arith, answer.1, list_length v r h e) in
      let at : n - 1 - place ≡ length R - 1 - (place - k) = omega arith in (
        answer.0,
        sym (ap (λ l. slice_get l place) (list_at v r h e)
            ∙ slice_get_read (F ++ reverse R) (length (F ++ reverse R)) place x refl (omega (arith, length-append F (reverse R), length-reverse R))
            (got ∙ ap (λ k. get_or R k x) at ∙ sym (get_or-append_right F (reverse R) k place x f ge ∙ get_or-reverse R (place - k) x (omega arith)))),
      )
