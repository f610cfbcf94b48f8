-- Lists in list cells: reading along them, and what a rebuild lays.
use Rattle.std.proofs.Common.{◌≡◌, ℕ, zero, suc, ◌+◌, ◌-◌, ◌<◌, ◌≤◌, min, cond, ltb, List, [], ◌∷◌, ◌++◌, reverse, length, get_or, take, drop, set, sym, refl, ap, ◌∙◌, ⊎_elim, arith}
use Rattle.std.proofs.lemmas.List.{append_assoc, reverse-append, length-drop, take-append-le, take_all, take-take, take_more, take_more_set, drop_more, get_or-take, get_or-drop, get_or-append-add, get_or_read}
use Rattle.std.proofs.lemmas.Bool.{cases_lt, lt-ltb, le-ltb}
use Rattle.two_list.specs.Chains.{cell_at, chain, behind, rebuilt}
use Rattle.two_list.specs.Filling.{Fills}
use Rattle.two_list.specs.Tables.{Closed}
use Rattle.two_list.specs.Writes.{Rebuildable}
use Rattle.two_list.specs.declared.lent_table.LentTable.{LentTable}
use Rattle.two_list.specs.declared.rows.ListCell.{ListCell}
use Rattle.two_list.specs.declared.rows.Side.{Side}
use Rattle.two_list.proofs.Filling.{one_more}

pub length_chain : (C : List ListCell) (i n : ℕ) → length (chain C i n) ≡ n
length_chain C i zero = refl
length_chain C i (suc n) = ap suc (length_chain C (cell_at C i).next n)

pub chain_take : (C : List ListCell) (i n m : ℕ) → m ≤ n → take m (chain C i n) ≡ chain C i m
chain_take C i n zero h = refl
chain_take C i zero (suc m) h = absurd (omega arith)
chain_take C i (suc n) (suc m) h = ap (λ l. (cell_at C i).item ∷ l) (chain_take C (cell_at C i).next n m (omega arith))

pub behind_more : (C : List ListCell) (i k : ℕ) → behind C i (k + 1) ≡ (cell_at C (behind C i k)).next
behind_more C i zero = refl
behind_more C i (suc k) =
    let e : suc k + 1 ≡ suc (k + 1) = omega arith in
    ap (behind C i) e ∙ behind_more C (cell_at C i).next k

chain_more : (C : List ListCell) (i k : ℕ) → chain C i (k + 1) ≡ chain C i k ++ (cell_at C (behind C i k)).item ∷ []
chain_more C i zero = refl
chain_more C i (suc k) =
    let e : suc k + 1 ≡ suc (k + 1) = omega arith in
    ap (chain C i) e ∙ ap (λ l. (cell_at C i).item ∷ l) (chain_more C (cell_at C i).next k)

pub places_inside : (C : List ListCell) (kept linked i n k : ℕ) → Closed C kept linked → i + min n 1 ≤ linked → k < n → get_or (chain C i n) k 0 < kept
places_inside C kept linked i zero k closed s h = absurd (omega arith)
places_inside C kept linked i (suc n) zero closed s h = (closed i (omega arith)).0
places_inside C kept linked i (suc n) (suc k) closed s h =
    let next = (closed i (omega arith)).1 in
    places_inside C kept linked (cell_at C i).next n k closed (omega arith) (omega arith)

pub cell_same : (C C' : List ListCell) (linked k : ℕ) → take linked C' ≡ take linked C → k < linked → cell_at C' k ≡ cell_at C k
cell_same C C' linked k e h =
    sym (get_or-take linked C' k _ h) ∙ ap (λ l. cell_at l k) e ∙ get_or-take linked C k _ h

-- the filled cells stay closed, whatever is written beyond them
closed_same : (C C' : List ListCell) (kept linked : ℕ) → take linked C' ≡ take linked C → Closed C kept linked → Closed C' kept linked
closed_same C C' kept linked e closed k h =
    let c = closed k h in
    let same = cell_same C C' linked k e h in
    (omega (arith, ap (λ (x : ListCell). x.item) same), omega (arith, ap (λ (x : ListCell). x.next) same))

-- n cells more
closed_more : (C C' : List ListCell) (kept kept' linked n : ℕ) → take linked C' ≡ take linked C → Closed C kept linked → kept ≤ kept'
    → ((j : ℕ) → j < n → ((cell_at C' (linked + j)).item < kept') × ((cell_at C' (linked + j)).next < linked + n)) → Closed C' kept' (linked + n)
closed_more C C' kept kept' linked n e closed more new k h =
    ⊎_elim
    (λ (lt : k < linked). let c = closed_same C C' kept linked e closed k lt in (omega arith, omega arith))
    (λ (le : linked ≤ k).
    let at : linked + (k - linked) ≡ k = omega arith in
    let c = new (k - linked) (omega arith) in
    (omega (arith, ap (λ i. (cell_at C' i).item) at), omega (arith, ap (λ i. (cell_at C' i).next) at)))
    (cases_lt k linked)

-- the k-th cell of a rebuild that lays cells from cell `to` on
abbrev laid : ℕ → ℕ → ℕ → ℕ → ListCell
laid to stay k p = record { item = p; next = cond (ltb k stay) (to + k + 1) (to + k - 1) }

length_rebuilt : (to stay k : ℕ) (ps : List ℕ) → length (rebuilt to stay k ps) ≡ length ps
length_rebuilt to stay k [] = refl
length_rebuilt to stay k (p ∷ ps) = ap suc (length_rebuilt to stay (k + 1) ps)

rebuilt_at : (to stay k : ℕ) (ps : List ℕ) (j : ℕ) → j < length ps → cell_at (rebuilt to stay k ps) j ≡ laid to stay (k + j) (get_or ps j 0)
rebuilt_at to stay k [] j h = absurd (omega arith)
rebuilt_at to stay k (p ∷ ps) zero h = let e : k ≡ k + 0 = omega arith in ap (λ n. laid to stay n p) e
rebuilt_at to stay k (p ∷ ps) (suc j) h =
    let e : (k + 1) + j ≡ k + suc j = omega arith in
    rebuilt_at to stay (k + 1) ps j (omega arith) ∙ ap (λ n. laid to stay n (get_or ps j 0)) e

rebuilt_push : (to stay k : ℕ) (ps : List ℕ) (p n : ℕ) → k + length ps ≡ n → rebuilt to stay k (ps ++ p ∷ []) ≡ rebuilt to stay k ps ++ laid to stay n p ∷ []
rebuilt_push to stay k [] p n e = let z : k ≡ n = omega arith in ap (λ m. laid to stay m p ∷ []) z
rebuilt_push to stay k (q ∷ ps) p n e = ap (λ l. laid to stay k q ∷ l) (rebuilt_push to stay (k + 1) ps p n (omega arith))

-- one turn of a rebuild: E are the cells before it, J those before the turn
rebuild_more : (E J : List ListCell) (to stay i k : ℕ) (x : ListCell) → to + k < length J
    → take (to + k) J ≡ take to E ++ rebuilt to stay 0 (chain E i k)
    → x ≡ laid to stay k (cell_at E (behind E i k)).item
    → take (to + (k + 1)) (set J (to + k) x) ≡ take to E ++ rebuilt to stay 0 (chain E i (k + 1))
rebuild_more E J to stay i k x lt inv e =
    let n : to + (k + 1) ≡ (to + k) + 1 = omega arith in
    let P = take to E in
    let p = (cell_at E (behind E i k)).item in
    ap (λ m. take m (set J (to + k) x)) n
    ∙ take_more_set J (to + k) x lt
    ∙ ap (λ l. l ++ x ∷ []) inv
    ∙ append_assoc P (rebuilt to stay 0 (chain E i k)) (x ∷ [])
    ∙ ap (λ y. P ++ (rebuilt to stay 0 (chain E i k) ++ y ∷ [])) e
    ∙ ap (λ l. P ++ l) (sym (rebuilt_push to stay 0 (chain E i k) p k (omega (arith, length_chain E i k))))
    ∙ ap (λ l. P ++ rebuilt to stay 0 l) (sym (chain_more E i k))

ltb_shift : (to k stay : ℕ) → ltb (to + k) (to + stay) ≡ ltb k stay
ltb_shift to k stay =
    ⊎_elim
    (λ (lt : k < stay). lt-ltb (to + k) (to + stay) (omega arith) ∙ sym (lt-ltb k stay lt))
    (λ (le : stay ≤ k). le-ltb (to + k) (to + stay) (omega arith) ∙ sym (le-ltb k stay le))
    (cases_lt k stay)

-- after k turns of a rebuild, which began with the cells E: the cells J, and the next cell to copy
pub record Rebuilding (E J : LentTable ListCell) (far : Side) (stay k at : ℕ) : Type 0 where
  pub more : Fills E k J
  pub laid : take (E.filled + k) J.places.now ≡ take E.filled E.places.now ++ rebuilt E.filled stay 0 (chain E.places.now far.cell k)
  pub at_is : at ≡ behind E.places.now far.cell k
  pub at_starts : at + min (far.length - k) 1 ≤ E.filled

pub rebuilding_more : (E J J' : LentTable ListCell) (far : Side) (stay k at first place next : ℕ) (cell : ListCell) → Rebuildable E far stay → k < far.length → Rebuilding E J far stay k at
    → cell ≡ get_or J.places.now at cell → first ≡ E.filled → place ≡ J.filled → next ≡ cond (ltb place (first + stay)) (place + 1) (place - 1)
    → J'.places.now ≡ set J.places.now J.filled (record { item = cell.item; next = next }) → J'.filled ≡ J.filled + 1
    → Rebuilding E J' far stay (k + 1) cell.next
rebuilding_more E J J' far stay k at first place next cell able h so_far got first_is place_is link places filled =
    let to = E.filled in
    let C = E.places.now in
    let x : ListCell = record { item = cell.item; next = next } in
    let more = so_far.more in
    let same : cell ≡ cell_at C at =
    get_or_read J.places.now at cell (omega (arith, so_far.at_starts, more.size)) got _ ∙ cell_same C J.places.now to at more.before (omega (arith, so_far.at_starts)) in
    let here : cell ≡ cell_at C (behind C far.cell k) = same ∙ ap (cell_at C) so_far.at_is in
    let at_place = place_is ∙ more.filled in
    let linked : next ≡ cond (ltb k stay) (to + k + 1) (to + k - 1) =
    link ∙ (λ j. cond (ltb (at_place j) (first_is j + stay)) (at_place j + 1) (at_place j - 1)) ∙ ap (λ b. cond b (to + k + 1) (to + k - 1)) (ltb_shift to k stay) in
    record {
      more = one_more E J J' k x more places filled;
      laid = ap (take (to + (k + 1))) (places ∙ ap (λ n. set J.places.now n x) more.filled)
          ∙ rebuild_more C J.places.now to stay far.cell k x (omega (arith, more.size, able.room)) so_far.laid (λ j. record { item = (here j).item; next = linked j });
      at_is = ap (λ (c : ListCell). c.next) here ∙ sym (behind_more C far.cell k);
      at_starts = omega (arith, able.inside at (omega (arith, so_far.at_starts)), ap (λ (c : ListCell). c.next) same);
    }

-- after a rebuild of the places ps, whose cells stand behind the cells P
module _ (C P : List ListCell) (to stay n : ℕ) (ps : List ℕ) (e : take (to + n) C ≡ P ++ rebuilt to stay 0 ps) (p : length P ≡ to) (l : length ps ≡ n) where
  laid_at : (j : ℕ) → j < n → cell_at C (to + j) ≡ laid to stay j (get_or ps j 0)
  laid_at j h =
      let z : to + j ≡ length P + j = omega arith in
      let y : 0 + j ≡ j = omega arith in
      sym (get_or-take (to + n) C (to + j) _ (omega arith))
      ∙ ap (λ k. cell_at k (to + j)) e
      ∙ ap (cell_at (P ++ rebuilt to stay 0 ps)) z
      ∙ get_or-append-add P (rebuilt to stay 0 ps) j _
      ∙ rebuilt_at to stay 0 ps j (omega arith)
      ∙ ap (λ k. laid to stay k (get_or ps j 0)) y

  stays_at : (j : ℕ) → j < n → j < stay → cell_at C (to + j) ≡ record { item = get_or ps j 0; next = to + (j + 1) }
  stays_at j h s =
      let z : to + j + 1 ≡ to + (j + 1) = omega arith in
      laid_at j h ∙ ap (λ b. record { item = get_or ps j 0; next = cond b (to + j + 1) (to + j - 1) }) (lt-ltb j stay s)
      ∙ ap (λ k. record { item = get_or ps j 0; next = k }) z

  goes_at : (j : ℕ) → j < n → stay ≤ j → cell_at C (to + j) ≡ record { item = get_or ps j 0; next = to + j - 1 }
  goes_at j h s =
      laid_at j h ∙ ap (λ b. record { item = get_or ps j 0; next = cond b (to + j + 1) (to + j - 1) }) (le-ltb j stay s)

  forwards : (m k : ℕ) → k + m ≤ stay → stay ≤ n → chain C (to + k) m ≡ take m (drop k ps)
  forwards zero k a b = refl
  forwards (suc m) k a b =
      let x = stays_at k (omega arith) (omega arith) in
      ap (λ (c : ListCell). c.item ∷ chain C c.next m) x
      ∙ ap (λ t. get_or ps k 0 ∷ t) (forwards m (k + 1) (omega arith) b)
      ∙ ap (take (suc m)) (sym (drop_more ps k 0 (omega arith)))

  backwards : (m : ℕ) → stay + m ≤ n → chain C (to + (stay + m) - 1) m ≡ reverse (take m (drop stay ps))
  backwards zero a = refl
  backwards (suc m) a =
      let z : to + (stay + suc m) - 1 ≡ to + (stay + m) = omega arith in
      let y : suc m ≡ m + 1 = omega arith in
      let x = goes_at (stay + m) (omega arith) (omega arith) in
      let d = drop stay ps in
      let here : get_or ps (stay + m) 0 ≡ get_or d m 0 = sym (get_or-drop stay ps m 0) in
      ap (λ i. chain C i (suc m)) z
      ∙ ap (λ (c : ListCell). c.item ∷ chain C c.next m) x
      ∙ ap (λ t. get_or ps (stay + m) 0 ∷ t) (backwards m (omega arith))
      ∙ ap (λ q. q ∷ reverse (take m d)) here
      ∙ sym (reverse-append (take m d) (get_or d m 0 ∷ []))
      ∙ ap reverse (sym (take_more d m 0 (omega (arith, length-drop stay ps))))
      ∙ ap (λ k. reverse (take k d)) (sym y)

  pub staying_chain : stay ≤ n → chain C to stay ≡ take stay ps
  staying_chain b =
      let z : to ≡ to + 0 = omega arith in
      ap (λ i. chain C i stay) z ∙ forwards stay 0 (omega arith) b

  pub going_chain : stay ≤ n → chain C (to + n - 1) (n - stay) ≡ reverse (drop stay ps)
  going_chain b =
      let z : to + n - 1 ≡ to + (stay + (n - stay)) - 1 = omega arith in
      ap (λ i. chain C i (n - stay)) z
      ∙ backwards (n - stay) (omega arith)
      ∙ ap reverse (take_all (n - stay) (drop stay ps) (omega (arith, length-drop stay ps)))

  pub rebuilt_closed : (E : List ListCell) (kept : ℕ) → P ≡ take to E → Closed E kept to → stay < n → ((k : ℕ) → k < n → get_or ps k 0 < kept) → Closed C kept (to + n)
  rebuilt_closed E kept front closed s inside =
      closed_more E C kept kept to n
      (sym (take-take to (to + n) C (omega arith)) ∙ ap (take to) e ∙ take-append-le to P (rebuilt to stay 0 ps) (omega arith) ∙ take_all to P (omega arith) ∙ front)
      closed (omega arith)
      (λ j h.
      let i = inside j h in
      ⊎_elim
      (λ (lt : j < stay). let x = stays_at j h lt in (omega (arith, ap (λ (c : ListCell). c.item) x), omega (arith, ap (λ (c : ListCell). c.next) x)))
      (λ (le : stay ≤ j). let x = goes_at j h le in (omega (arith, ap (λ (c : ListCell). c.item) x), omega (arith, ap (λ (c : ListCell). c.next) x)))
      (cases_lt j stay))
