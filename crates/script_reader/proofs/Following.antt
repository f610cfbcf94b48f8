-- One line more of goals or of rules, and where the goals end.
use Rattle.std.proofs.Common.{◌≡◌, ℕ, ◌+◌, true, false, List, [], ◌∷◌, ◌++◌, map, length, get_or, drop, Ok, Err, codes, refl}
use Rattle.script.specs.Contents.{rule_content}
use Rattle.script.specs.Fields.{field}
use Rattle.script.specs.Reading.{due, goal_of, goals_on, rule_of, rules_on}
use Rattle.script.specs.Tables.{Row}
use Rattle.script.specs.declared.rules.Rule.{Rule}
use Rattle.script.specs.declared.refusals.Refusal.{Refusal}
use Rattle.script_reader.specs.Places.{ended}
use Rattle.std.proofs.lemmas.List.{length-map, map_push}
use Rattle.std.proofs.lemmas.Bool.{false≢true}
use Rattle.std.specs.Str.{bytes_eq}

pub goals_refused : (n states : ℕ) (done : List ℕ) (rows : List Row) (e : Refusal) → bytes_eq (field 0 (get_or rows 0 [])) (codes "goal") ≡ true → goal_of n states done rows ≡ Err e → goals_on n states done rows ≡ Err e
goals_refused n states done [] e begins no_goal = absurd (false≢true begins)
goals_refused n states done (row ∷ rows) e begins no_goal = rw (begins, no_goal)

pub goals_end : (n states : ℕ) (done : List ℕ) (rows : List Row) → bytes_eq (field 0 (get_or rows 0 [])) (codes "goal") ≡ false → goals_on n states done rows ≡ Ok (record { goals = done; next = n; rows = rows })
goals_end n states done [] other = refl
goals_end n states done (row ∷ rows) other = rw other

-- a rule is read only where another row stands behind its own
pub rules_more : (n states : ℕ) (done : List Rule) (rule : Rule) (rows : List Row) → rule_of n states (length done) rows ≡ Ok (rule_content rule) → rules_on (n + 1) states (map rule_content (done ++ rule ∷ [])) (drop 1 rows) ≡ rules_on n states (map rule_content done) rows
unfolding rule_of due
rules_more n states done rule [] known = cc
rules_more n states done rule (row ∷ []) known = cc
rules_more n states done rule (row ∷ next ∷ rows) known = rw (length-map done rule_content, known, map_push rule_content done rule)

pub rules_refused : (n states : ℕ) (done : List Rule) (rows : List Row) (e : Refusal) → ended rows ≡ false → rule_of n states (length done) rows ≡ Err e → rules_on n states (map rule_content done) rows ≡ Err e
unfolding rule_of due
rules_refused n states done [] e more no_rule = cc
rules_refused n states done (row ∷ []) e more no_rule = rw more (cc)
rules_refused n states done (row ∷ next ∷ rows) e more no_rule = rw (length-map done rule_content, no_rule)
