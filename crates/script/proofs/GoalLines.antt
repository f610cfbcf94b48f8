-- Goals: the lines that are read as goals are theirs, and the lines of rising goals are read.
use Rattle.std.proofs.Common.{◌≡◌, ℕ, ◌+◌, ◌<◌, ◌≤◌, Bool, true, false, cond, ltb, List, [], ◌∷◌, ◌++◌, map, length, Ok, codes, Result, refl, ap, ◌∙◌, subst, append_assoc, append-nil, arith}
use Rattle.std.specs.List.{list_all}
use Rattle.std.proofs.lemmas.List.{length-append, length_push}
use Rattle.std.proofs.lemmas.Bool.{and_parts, and_from}
use Rattle.std.specs.Str.{bytes_eq}
use Rattle.script.specs.Fields.{◌>>=◌, field}
use Rattle.script.specs.Reading.{above, goal_of, Goals, goals_on}
use Rattle.script.specs.Soundness.{rising}
use Rattle.script.specs.Tables.{Row}
use Rattle.script.specs.Texts.{goal_row}
use Rattle.script.specs.declared.refusals.Refusal.{Refusal}
use Rattle.script.proofs.Added.{Added, added_none, added_more}
use Rattle.script.proofs.Due.{first}
use Rattle.script.proofs.Lines.{goal_is, goal_line}
use Rattle.script.proofs.Outcomes.{bind_is, from_ok}

-- a goal above the last keeps the list rising
rising_push : (done : List ℕ) (g : ℕ) → rising done ≡ true → above done g ≡ true → rising (done ++ g ∷ []) ≡ true
rising_push [] g up over = refl
rising_push (x ∷ []) g up over = and_from (ltb x g) true over refl
rising_push (x ∷ y ∷ ys) g up over =
    let (here, rest) = and_parts (ltb x y) (rising (y ∷ ys)) up in
    and_from (ltb x y) (rising ((y ∷ ys) ++ g ∷ [])) here (rising_push (y ∷ ys) g rest over)

-- in a rising list each goal is above those before it
rising_above : (done : List ℕ) (g : ℕ) (gs : List ℕ) → rising (done ++ g ∷ gs) ≡ true → above done g ≡ true
rising_above [] g gs up = refl
rising_above (x ∷ []) g gs up = (and_parts (ltb x g) (rising (g ∷ gs)) up).0
rising_above (x ∷ y ∷ ys) g gs up = rising_above (y ∷ ys) g gs (and_parts (ltb x y) (rising ((y ∷ ys) ++ g ∷ gs)) up).1

module _ (states : ℕ) where
  -- goals that are read behind those done, up to the rows that are left
  abbrev pub GoalLines : List ℕ → List Row → Goals → Type 0
  GoalLines done rows a = Added goal_row (λ g. ltb g states) 8 done a.goals rows a.rows × (rising a.goals ≡ true)

  -- what is read as goals is their lines
  pub goals_are :
      (n : ℕ) (done : List ℕ) (rows : List Row) (a : Goals) → length done ≤ 8 → rising done ≡ true → goals_on n states done rows ≡ Ok a →
      GoalLines done rows a
  goals_are n done [] a few up e = subst (GoalLines done []) (from_ok e) (added_none goal_row (λ g. ltb g states) 8 done [] few, up)
  goals_are n done (row ∷ rows) a few up e = go (bytes_eq (field 0 row) (codes "goal")) (λ g. goals_are (n + 1) (done ++ g ∷ []) rows a) e
    where
      go :
          (b : Bool) →
          ((g : ℕ) → length (done ++ g ∷ []) ≤ 8 → rising (done ++ g ∷ []) ≡ true → goals_on (n + 1) states (done ++ g ∷ []) rows ≡ Ok a → GoalLines (done ++ g ∷ []) rows a) →
          cond b (goal_of n states done (row ∷ rows) >>= λ g. goals_on (n + 1) states (done ++ g ∷ []) rows) (Ok (record { goals = done; next = n; rows = row ∷ rows })) ≡ Ok a →
          GoalLines done (row ∷ rows) a
      go true later k =
          let (g, e₀, k₀) = bind_is (goal_of n states done (row ∷ rows)) _ a k in
          let (line, there, over, room) = goal_is n states done (row ∷ rows) g e₀ in
          let (more, rises) = later g (rw length_push (omega arith)) (rising_push done g up over) k₀ in
          let is : row ≡ goal_row g = cc line.is in
          (added_more goal_row (λ x. ltb x states) 8 done a.goals g (row ∷ rows) rows a.rows there (ap {B = List Row} (λ z. z ∷ rows) is) more, rises)
      go false later k = subst (GoalLines done (row ∷ rows)) (from_ok k) (added_none goal_row (λ g. ltb g states) 8 done (row ∷ rows) few, up)

  module _ (fits : states ≤ 64) (rest : List Row) (some : 0 < length rest) where
    -- the lines of rising goals are read, up to the rows behind them, at which the goals end
    pub goals_read :
        ((k : ℕ) (all : List ℕ) → goals_on k states all rest ≡ Ok (record { goals = all; next = k; rows = rest })) →
        (n : ℕ) (done gs : List ℕ) → list_all (λ g. ltb g states) gs ≡ true → rising (done ++ gs) ≡ true → length (done ++ gs) ≤ 8 →
        (m : ℕ) × (goals_on n states done (map goal_row gs ++ rest) ≡ Ok (record { goals = done ++ gs; next = m; rows = rest }))
    goals_read ends n done [] each up few = (n, rw append-nil (ends n done))
    goals_read ends n done (g ∷ gs) each up few =
        let (there, others) = and_parts (ltb g states) (list_all (λ x. ltb x states) gs) each in
        let more = map goal_row gs ++ rest in
        let room : length done < 8 = omega (arith, length-append done (g ∷ gs)) in
        let here = goal_line n states done (goal_row g ∷ more) g (first (goal_row g) more (rw length-append (omega arith))) fits there (rising_above done g gs up) room in
        let same = append_assoc done (g ∷ []) gs in
        let (m, is) = goals_read ends (n + 1) (done ++ g ∷ []) gs others (ap rising same ∙ up) (rw same few) in
        (m, rw here (is ∙ ap {B = Result Goals Refusal} (λ z. Ok (record { goals = z; next = m; rows = rest })) same))
