-- Lines: what the line of each kind is where it is read, and that it is read where it is that.
use Rattle.std.proofs.Common.{◌≡◌, ℕ, ◌<◌, ◌≤◌, Bool, true, ◌&&◌, ltb, leb, List, [], ◌∷◌, length, Ok, codes, decimal, refl, subst, arith}
use Rattle.std.specs.List.{list_all}
use Rattle.std.proofs.lemmas.Bool.{and_parts, ltb-true, lt-ltb}
use Rattle.std.proofs.lemmas.Bool.Decides.{nat_tests}
use Rattle.script.specs.Contents.{RuleContent}
use Rattle.script.specs.Fields.{field, number_in, state_in, marks_in, acts_in}
use Rattle.script.specs.Reading.{due, Head, head_of, Start, start_of, above, goal_of, rule_of}
use Rattle.script.specs.Soundness.{within, is_mark, sound_rule}
use Rattle.script.specs.Tables.{Row}
use Rattle.script.specs.Texts.{goal_row, rule_row}
use Rattle.script.specs.declared.refusals.Refusal.TheVariants.{Sequence}
use Rattle.script.proofs.Due.{First, at_first, due_is}
use Rattle.script.proofs.Fields.{number_is, number_decimal, state_is, state_decimal, marks_is, marks_themselves, acts_in_is, acts_in_text}
use Rattle.script.proofs.Outcomes.{bind_is, ask_is, from_ok}

-- the row of a head, and its ranges
abbrev pub head_line : Head → Row
head_line h = codes "script" ∷ decimal 1 ∷ decimal h.states ∷ decimal h.width ∷ decimal h.depth ∷ []

abbrev pub sound_head : Head → Bool
sound_head h = within 1 64 h.states && within 1 255 h.width && within 0 255 h.depth

-- what is read as a head is its line
pub head_is : (n : ℕ) (rows : List Row) (h : Head) → head_of n rows ≡ Ok h → First rows (head_line h) × (sound_head h ≡ true)
unfolding head_of
head_is n rows h e =
    let (row, e₀, k₀) = bind_is (due n (codes "script") 5 rows) _ h e in
    let (one, e₁, k₁) = bind_is (number_in n 1 1 (field 1 row)) _ h k₀ in
    let (states, e₂, k₂) = bind_is (number_in n 1 64 (field 2 row)) _ h k₁ in
    let (width, e₃, k₃) = bind_is (number_in n 1 255 (field 3 row)) _ h k₂ in
    let (depth, e₄, k₄) = bind_is (number_in n 0 255 (field 4 row)) _ h k₃ in
    let (first, is) = due_is n (codes "script") 4 rows row e₀ in
    let (f₁, in₁) = number_is n 1 1 (field 1 row) one e₁ in
    let (f₂, in₂) = number_is n 1 64 (field 2 row) states e₂ in
    let (f₃, in₃) = number_is n 1 255 (field 3 row) width e₃ in
    let (f₄, in₄) = number_is n 0 255 (field 4 row) depth e₄ in
    let form : one ≡ 1 = grind (arith, nat_tests) in
    subst
    (λ z. First rows (head_line z) × (sound_head z ≡ true))
    (from_ok k₄)
    (at_first first (cc), grind (arith, nat_tests))

-- the line of a head is read as it
pub head_line_lem : (n : ℕ) (rows : List Row) (h : Head) → First rows (head_line h) → sound_head h ≡ true → head_of n rows ≡ Ok h
unfolding head_of due
head_line_lem n rows h first sound =
    let e₁ = number_decimal n 1 1 1 (omega arith) refl in
    let e₂ = number_decimal n 1 64 h.states (grind (arith, nat_tests)) (grind (arith, nat_tests)) in
    let e₃ = number_decimal n 1 255 h.width (grind (arith, nat_tests)) (grind (arith, nat_tests)) in
    let e₄ = number_decimal n 0 255 h.depth (grind (arith, nat_tests)) (grind (arith, nat_tests)) in
    rw (first.is, e₁, e₂, e₃, e₄)

-- the same of the start
abbrev pub start_line : Start → Row
start_line s = codes "start" ∷ decimal s.state ∷ s.marks ∷ []

abbrev pub sound_start_at : ℕ → ℕ → Start → Bool
sound_start_at states width s = ltb s.state states && list_all is_mark s.marks && leb (length s.marks) width

pub start_is : (n states width : ℕ) (rows : List Row) (s : Start) → start_of n states width rows ≡ Ok s → First rows (start_line s) × (sound_start_at states width s ≡ true)
unfolding start_of
start_is n states width rows s e =
    let (row, e₀, k₀) = bind_is (due n (codes "start") 3 rows) _ s e in
    let (state, e₁, k₁) = bind_is (state_in n states (field 1 row)) _ s k₀ in
    let (marks, e₂, k₂) = bind_is (marks_in n width (field 2 row)) _ s k₁ in
    let (first, is) = due_is n (codes "start") 2 rows row e₀ in
    let (f₁, in₁) = state_is n states (field 1 row) state e₁ in
    let (f₂, in₂) = marks_is n width (field 2 row) marks e₂ in
    subst
    (λ z. First rows (start_line z) × (sound_start_at states width z ≡ true))
    (from_ok k₂)
    (at_first first (cc), grind (arith, nat_tests))

pub start_line_lem :
    (n states width : ℕ) (rows : List Row) (s : Start) → First rows (start_line s) → states ≤ 64 → sound_start_at states width s ≡ true →
    start_of n states width rows ≡ Ok s
unfolding start_of due
start_line_lem n states width rows s first few sound =
    let e₁ = state_decimal n states s.state (grind (arith, nat_tests)) (grind (arith, nat_tests)) in
    let e₂ = marks_themselves n width s.marks (grind (arith, nat_tests)) in
    rw (first.is, e₁, e₂)

-- the same of a goal behind those done
pub goal_is :
    (n states : ℕ) (done : List ℕ) (rows : List Row) (g : ℕ) → goal_of n states done rows ≡ Ok g →
    First rows (goal_row g) × (ltb g states ≡ true) × (above done g ≡ true) × (length done < 8)
unfolding goal_of
goal_is n states done rows g e =
    let (row, e₀, k₀) = bind_is (due n (codes "goal") 2 rows) _ g e in
    let (v, e₁, k₁) = bind_is (state_in n states (field 1 row)) _ g k₀ in
    let (fits, k₂) = ask_is (above done v && ltb (length done) 8) (Sequence n) (Ok v) g k₁ in
    let (first, is) = due_is n (codes "goal") 1 rows row e₀ in
    let (f₁, in₁) = state_is n states (field 1 row) v e₁ in
    let (up, few) = and_parts (above done v) (ltb (length done) 8) fits in
    subst
    (λ z. First rows (goal_row z) × (ltb z states ≡ true) × (above done z ≡ true) × (length done < 8))
    (from_ok k₂)
    (at_first first (cc), in₁, up, ltb-true (length done) 8 few)

pub goal_line :
    (n states : ℕ) (done : List ℕ) (rows : List Row) (g : ℕ) → First rows (goal_row g) → states ≤ 64 → ltb g states ≡ true → above done g ≡ true → length done < 8 →
    goal_of n states done rows ≡ Ok g
unfolding goal_of due
goal_line n states done rows g first few there up room =
    let e₁ = state_decimal n states g (grind (arith, nat_tests)) there in
    rw (first.is, e₁, up, lt-ltb (length done) 8 room)

-- the same of a rule behind so many
pub rule_is :
    (n states count : ℕ) (rows : List Row) (r : RuleContent) → rule_of n states count rows ≡ Ok r →
    First rows (rule_row r) × (sound_rule states r ≡ true) × (count < 64)
unfolding rule_of
rule_is n states count rows r e =
    let (row, e₀, k₀) = bind_is (due n (codes "rule") 4 rows) _ r e in
    let (from, e₁, k₁) = bind_is (state_in n states (field 1 row)) _ r k₀ in
    let (to, e₂, k₂) = bind_is (state_in n states (field 2 row)) _ r k₁ in
    let (all, e₃, k₃) = bind_is (acts_in n (field 3 row)) _ r k₂ in
    let (room, k₄) = ask_is (ltb count 64) (Sequence n) _ r k₃ in
    let (first, is) = due_is n (codes "rule") 3 rows row e₀ in
    let (f₁, in₁) = state_is n states (field 1 row) from e₁ in
    let (f₂, in₂) = state_is n states (field 2 row) to e₂ in
    let (f₃, in₃, in₄) = acts_in_is n (field 3 row) all e₃ in
    subst
    (λ z. First rows (rule_row z) × (sound_rule states z ≡ true) × (count < 64))
    (from_ok k₄)
    (at_first first (cc), grind (arith, nat_tests), ltb-true count 64 room)

pub rule_line :
    (n states count : ℕ) (rows : List Row) (r : RuleContent) → First rows (rule_row r) → states ≤ 64 → sound_rule states r ≡ true → count < 64 →
    rule_of n states count rows ≡ Ok r
unfolding rule_of due
rule_line n states count rows r first few sound room =
    let e₁ = state_decimal n states r.from (grind (arith, nat_tests)) (grind (arith, nat_tests)) in
    let e₂ = state_decimal n states r.to (grind (arith, nat_tests)) (grind (arith, nat_tests)) in
    let e₃ = acts_in_text n r.acts (grind (arith, nat_tests)) (grind (arith, nat_tests)) in
    rw (first.is, e₁, e₂, e₃, lt-ltb count 64 room)
