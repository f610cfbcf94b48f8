-- Reading: from the bytes of a text to what the script holds, or to the first refusal.
use Rattle.std.specs.Prelude.{ℕ, ◌+◌, Bool, true, if◌then◌else◌, ◌&&◌, List, [], ◌∷◌, ◌++◌, length, drop, Ok, Err, codes, Result, ◌==◌, nat_lt}
use Rattle.std.specs.Str.{bytes_eq}
use Rattle.script.specs.Contents.{Content, RuleContent}
use Rattle.script.specs.Fields.{◌>>=◌, ◌>>◌, ask, field, number_in, state_in, marks_in, acts_in}
use Rattle.script.specs.Soundness.{within}
use Rattle.script.specs.Tables.{Row, table}
use Rattle.script.specs.declared.refusals.Refusal.{Refusal}
use Rattle.script.specs.declared.refusals.Refusal.TheVariants.{Size, Shape, Sequence}

-- the row begins with the word and has so many fields
abbrev pub shaped : List ℕ → ℕ → Row → Bool
shaped word count row = bytes_eq (field 0 row) word && length row == count

-- the row of line n: only a row with another behind it ends with a line feed
unfoldable pub due : ℕ → List ℕ → ℕ → List Row → Result Row Refusal
due n word count [] = Err (Shape n)
due n word count (row ∷ []) = Err (Shape n)
due n word count (row ∷ next ∷ rows) = do
  ask (shaped word count row) (Shape n)
  Ok row

pub record Head : Type 0 where
  pub states : ℕ
  pub width : ℕ
  pub depth : ℕ

-- the line of the whole: its first number is that of the text's form
unfoldable pub head_of : ℕ → List Row → Result Head Refusal
head_of n rows = do
  row ← due n (codes "script") 5 rows
  number_in n 1 1 (field 1 row)
  states ← number_in n 1 64 (field 2 row)
  width ← number_in n 1 255 (field 3 row)
  depth ← number_in n 0 255 (field 4 row)
  Ok (record { states = states; width = width; depth = depth })

pub record Start : Type 0 where
  pub state : ℕ
  pub marks : List ℕ

-- the line of the start, in a script of so many states and of that width
unfoldable pub start_of : ℕ → ℕ → ℕ → List Row → Result Start Refusal
start_of n states width rows = do
  row ← due n (codes "start") 3 rows
  state ← state_in n states (field 1 row)
  marks ← marks_in n width (field 2 row)
  Ok (record { state = state; marks = marks })

-- g is above the last of the goals before it
abbrev pub above : List ℕ → ℕ → Bool
above [] g = true
above (x ∷ []) g = nat_lt x g
above (x ∷ y ∷ ys) g = above (y ∷ ys) g

-- one goal more, behind those that stand
unfoldable pub goal_of : ℕ → ℕ → List ℕ → List Row → Result ℕ Refusal
goal_of n states done rows = do
  row ← due n (codes "goal") 2 rows
  g ← state_in n states (field 1 row)
  ask (above done g && nat_lt (length done) 8) (Sequence n)
  Ok g

-- one rule more, behind as many as are counted
unfoldable pub rule_of : ℕ → ℕ → ℕ → List Row → Result RuleContent Refusal
rule_of n states count rows = do
  row ← due n (codes "rule") 4 rows
  from ← state_in n states (field 1 row)
  to ← state_in n states (field 2 row)
  all ← acts_in n (field 3 row)
  ask (nat_lt count 64) (Sequence n)
  Ok (record { from = from; to = to; acts = all })

-- the goals, the number of the line behind them, and the rows from there on
pub record Goals : Type 0 where
  pub goals : List ℕ
  pub next : ℕ
  pub rows : List Row

-- goals as long as lines begin with their word
abbrev pub goals_on : ℕ → ℕ → List ℕ → List Row → Result Goals Refusal
goals_on n states done [] = Ok (record { goals = done; next = n; rows = [] })
goals_on n states done (row ∷ rows) =
    if bytes_eq (field 0 row) (codes "goal")
    then (goal_of n states done (row ∷ rows) >>= λ g. goals_on (n + 1) states (done ++ g ∷ []) rows)
    else Ok (record { goals = done; next = n; rows = row ∷ rows })

-- nothing stands in the row
abbrev pub blank : Row → Bool
blank row = length row == 1 && bytes_eq (field 0 row) []

-- rules up to the end of the text
abbrev pub rules_on : ℕ → ℕ → List RuleContent → List Row → Result (List RuleContent) Refusal
rules_on n states done [] = Err (Shape n)
rules_on n states done (row ∷ []) = ask (blank row) (Shape n) >> Ok done
rules_on n states done (row ∷ next ∷ rows) =
    rule_of n states (length done) (row ∷ next ∷ rows) >>= λ r. rules_on (n + 1) states (done ++ r ∷ []) (next ∷ rows)

-- the lines in their order
unfoldable pub read_rows : List Row → Result Content Refusal
read_rows rows = do
  head ← head_of 1 rows
  start ← start_of 2 head.states head.width (drop 1 rows)
  after ← goals_on 3 head.states [] (drop 2 rows)
  rules ← rules_on after.next head.states [] after.rows
  Ok
      (record {
        states = head.states;
        width = head.width;
        depth = head.depth;
        start = start.state;
        marks = start.marks;
        goals = after.goals;
        rules = rules;
      })

-- a whole text
unfoldable pub reading : List ℕ → Result Content Refusal
reading text = ask (within 1 4096 (length text)) Size >> read_rows (table text)
