-- The rows of a sound script: they are plain, so that the text has them for its table, and the text is not too long.
use Rattle.std.proofs.Common.{◌≡◌, ℕ, ◌*◌, ◌<◌, ◌≤◌, Bool, true, ltb, leb, List, [], ◌∷◌, ◌++◌, map, length, decimal, arith}
use Rattle.std.proofs.lemmas.Fmt.{length-decimal-le}
use Rattle.std.proofs.ByRecursion.{All-append, All-weaker}
use Rattle.std.proofs.lemmas.List.{length-append, length-map}
use Rattle.std.proofs.lemmas.Bool.{and_parts, and_from, le-leb}
use Rattle.std.proofs.lemmas.Bool.Decides.{nat_tests}
use Rattle.std.specs.List.{flat_map, AllByRecursion as All, list_all}
use Rattle.script.specs.Contents.{Content, RuleContent}
use Rattle.script.specs.Soundness.{within, sound_rule}
use Rattle.script.specs.Tables.{Row, table, line}
use Rattle.script.specs.Texts.{head_row, start_row, goal_row, rule_row, rows, text}
use Rattle.script.proofs.Kept.{Kept}
use Rattle.script.proofs.Letters.{acts_plain, marks_plain, length_acts}
use Rattle.script.proofs.Numbers.{decimal_plain}
use Rattle.script.proofs.Parting.{Above, Plain, end, table_lines}

-- at most three bytes, and no separator
record Small (f : List ℕ) : Type 0 where
  pub short : length f ≤ 3
  pub plain : All Above f

-- so is a number of the text
small : (v : ℕ) → v < 1000 → Small (decimal v)
small v h = record { short = length-decimal-le 3 v (omega arith) (omega arith) (omega arith); plain = decimal_plain v (omega arith) }

-- a row that is plain, with a line of at most so many bytes
record Fits (most : ℕ) (r : Row) : Type 0 where
  pub plain : Plain r
  pub short : length (line r) ≤ most

-- the lines of items that pass a test
each_fits : {X : Type 0} (most : ℕ) (row : X → Row) (passes : X → Bool) → ((x : X) → passes x ≡ true → Fits most (row x)) → (xs : List X) → list_all passes xs ≡ true → All (Fits most) (map row xs)
each_fits most row passes one [] h = tt
each_fits most row passes one (x ∷ xs) h = let (here, others) = and_parts (passes x) (list_all passes xs) h in (one x here, each_fits most row passes one xs others)

-- the row of each kind
goal_fits : (states : ℕ) → states ≤ 64 → (g : ℕ) → ltb g states ≡ true → Fits 24 (goal_row g)
goal_fits states few g h =
    let goal = small g (grind (arith, nat_tests)) in
    record { plain = record { some = omega arith; bytes = (omega arith, (goal.plain, tt)) }; short = simp length-append (omega arith) }

rule_fits : (states : ℕ) → states ≤ 64 → (r : RuleContent) → sound_rule states r ≡ true → Fits 24 (rule_row r)
rule_fits states few r h =
    let from = small r.from (grind (arith, nat_tests)) in
    let to = small r.to (grind (arith, nat_tests)) in
    let acts = acts_plain r.acts (grind (arith, nat_tests)) in
    let four : length r.acts ≤ 4 = grind (arith, nat_tests) in
    let bytes = length_acts r.acts in
    record { plain = record { some = omega arith; bytes = (omega arith, (from.plain, (to.plain, (acts, tt)))) }; short = simp length-append (omega arith) }

-- the bytes of short lines
length_lines : (rs : List Row) → All (Fits 24) rs → length (flat_map line rs) ≤ 24 * length rs
length_lines [] h = omega arith
length_lines (r ∷ rs) h = let here = h.0.short in let others = length_lines rs h.1 in rw length-append (omega arith)

module _ (c : Content) (k : Kept c) where
  head_fits : Fits 24 (head_row c)
  head_fits =
      let one = small 1 (omega arith) in
      let states = small c.states (grind (arith, nat_tests)) in
      let width = small c.width (grind (arith, nat_tests)) in
      let depth = small c.depth (grind (arith, nat_tests)) in
      record {
        plain = record { some = omega arith; bytes = (omega arith, (one.plain, (states.plain, (width.plain, (depth.plain, tt))))) };
        short = simp length-append (omega arith);
      }

  start_fits : Fits 270 (start_row c)
  start_fits =
      let start = small c.start (grind (arith, nat_tests)) in
      let marks = marks_plain c.marks (grind (arith, nat_tests)) in
      let few : length c.marks ≤ 255 = grind (arith, nat_tests) in
      record { plain = record { some = omega arith; bytes = (omega arith, (start.plain, (marks, tt))) }; short = simp length-append (omega arith) }

  -- so few states that each is a small number
  pub few_states : c.states ≤ 64
  few_states = grind (arith, nat_tests)

  -- the rows behind the first two
  list_fits : All (Fits 24) (map goal_row c.goals ++ map rule_row c.rules)
  list_fits =
      All-append
      (Fits 24)
      (map goal_row c.goals)
      (map rule_row c.rules)
      (each_fits 24 goal_row (λ g. ltb g c.states) (goal_fits c.states few_states) c.goals k.goals)
      (each_fits 24 rule_row (sound_rule c.states) (rule_fits c.states few_states) c.rules k.rules)

  -- the table of the text is its rows
  pub table_text : table (text c) ≡ rows c ++ end ∷ []
  unfolding text
  table_text = table_lines (rows c) (head_fits.plain, (start_fits.plain, All-weaker (Fits 24) Plain (λ r f. f.plain) _ list_fits))

  -- the text is neither empty nor too long
  pub text_length : within 1 4096 (length (text c)) ≡ true
  unfolding text
  text_length =
      let others = map goal_row c.goals ++ map rule_row c.rules in
      let head = line (head_row c) in
      let start = line (start_row c) in
      let size = length (flat_map line (rows c)) in
      let lines = length_lines others list_fits in
      let number : length others ≤ 72 = simp (length-append, length-map) (omega (arith, k.few_goals, k.few_rules)) in
      let all = length-append head (start ++ flat_map line others) in
      let behind = length-append start (flat_map line others) in
      let short : size ≤ 4096 = omega (arith, head_fits.short, start_fits.short) in
      and_from (leb 1 size) (leb size 4096) (le-leb 1 size (omega arith)) (le-leb size 4096 short)
