-- Rules: the lines that are read as rules are theirs and end the text, and the lines of rules are read.
use Rattle.std.proofs.Common.{◌≡◌, ℕ, ◌+◌, ◌<◌, ◌≤◌, true, eqb, List, [], ◌∷◌, ◌++◌, map, length, Ok, refl, ap, ◌∙◌, subst, append_assoc, append-nil, arith}
use Rattle.std.specs.List.{list_all}
use Rattle.std.proofs.lemmas.List.{length-append, length_push}
use Rattle.std.proofs.lemmas.Bool.{and_parts, and_from}
use Rattle.std.specs.Str.{bytes_eq}
use Rattle.script.specs.Contents.{RuleContent}
use Rattle.script.specs.Fields.{◌>>=◌, field}
use Rattle.script.specs.Reading.{rule_of, blank, rules_on}
use Rattle.script.specs.Soundness.{sound_rule}
use Rattle.script.specs.Tables.{Row}
use Rattle.script.specs.Texts.{rule_row}
use Rattle.script.specs.declared.refusals.Refusal.TheVariants.{Shape}
use Rattle.script.proofs.Added.{Added, added_none, added_more}
use Rattle.script.proofs.Due.{first, row_is}
use Rattle.script.proofs.Lines.{rule_is, rule_line}
use Rattle.script.proofs.Outcomes.{bind_is, ask_is, from_ok}
use Rattle.script.proofs.Parting.{end}

-- a blank row is the end
blank_is : (row : Row) → blank row ≡ true → row ≡ end
blank_is row h = let (one, none) = and_parts (eqb (length row) 1) (bytes_eq (field 0 row) []) h in row_is [] 0 row (and_from (bytes_eq (field 0 row) []) (eqb (length row) 1) none one)

module _ (states : ℕ) where
  -- rules that are read behind those done, up to the end of the text
  abbrev pub RuleLines : List RuleContent → List Row → List RuleContent → Type 0
  RuleLines done rows all = Added rule_row (sound_rule states) 64 done all rows (end ∷ [])

  -- what is read as rules is their lines
  pub rules_are :
      (n : ℕ) (done : List RuleContent) (rows : List Row) (all : List RuleContent) → length done ≤ 64 → rules_on n states done rows ≡ Ok all → RuleLines done rows all
  rules_are n done [] all few e = cc
  rules_are n done (row ∷ []) all few e =
      let (last, k) = ask_is (blank row) (Shape n) (Ok done) all e in
      subst (RuleLines done (row ∷ [])) (from_ok k) (rw (blank_is row last) (added_none rule_row (sound_rule states) 64 done (end ∷ []) few))
  rules_are n done (row ∷ next ∷ rows) all few e =
      let (r, e₀, k₀) = bind_is (rule_of n states (length done) (row ∷ next ∷ rows)) _ all e in
      let (line, keeps, room) = rule_is n states (length done) (row ∷ next ∷ rows) r e₀ in
      let is : row ≡ rule_row r = cc line.is in
      let more = rules_are (n + 1) (done ++ r ∷ []) (next ∷ rows) all (rw length_push (omega arith)) k₀ in
      added_more rule_row (sound_rule states) 64 done all r (row ∷ next ∷ rows) (next ∷ rows) (end ∷ []) keeps (ap {B = List Row} (λ z. z ∷ next ∷ rows) is) more

  -- before the last row a rule is due
  rules_more :
      (n : ℕ) (done : List RuleContent) (row : Row) (rest : List Row) → 0 < length rest →
      rules_on n states done (row ∷ rest) ≡ (rule_of n states (length done) (row ∷ rest) >>= λ r. rules_on (n + 1) states (done ++ r ∷ []) rest)
  rules_more n done row [] some = let w : ⊥ = omega arith in absurd w
  rules_more n done row (next ∷ rows) some = refl

  -- the lines of rules are read, up to the end
  pub rules_read :
      states ≤ 64 → (n : ℕ) (done rs : List RuleContent) → list_all (sound_rule states) rs ≡ true → length (done ++ rs) ≤ 64 →
      rules_on n states done (map rule_row rs ++ end ∷ []) ≡ Ok (done ++ rs)
  rules_read fits n done [] each few = rw append-nil
  rules_read fits n done (r ∷ rs) each few =
      let (keeps, others) = and_parts (sound_rule states r) (list_all (sound_rule states) rs) each in
      let more = map rule_row rs ++ end ∷ [] in
      let some : 0 < length more = rw length-append (omega arith) in
      let room : length done < 64 = omega (arith, length-append done (r ∷ rs)) in
      let here = rule_line n states (length done) (rule_row r ∷ more) r (first (rule_row r) more some) fits keeps room in
      let same = append_assoc done (r ∷ []) rs in
      rules_more n done (rule_row r) more some ∙ rw here (rules_read fits (n + 1) (done ++ r ∷ []) rs others (rw same few) ∙ ap Ok same)
