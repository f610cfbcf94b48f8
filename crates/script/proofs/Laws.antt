-- Reading and writing undo one another.
use Rattle.std.proofs.Common.{◌≡◌, ℕ, ◌<◌, true, ltb, List, [], ◌∷◌, ◌++◌, map, length, drop, Ok, sym, refl, ap, ◌∙◌, subst, append_assoc, arith}
use Rattle.std.specs.List.{list_all}
use Rattle.std.proofs.lemmas.List.{length-append, drop-drop}
use Rattle.script.specs.Claims.{AcceptedIsText, TextIsAccepted}
use Rattle.script.specs.Contents.{Content, RuleContent}
use Rattle.script.specs.Reading.{Head, head_of, Start, start_of, Goals, goals_on, rules_on, read_rows, reading}
use Rattle.script.specs.Soundness.{within, sound, sound_rule}
use Rattle.script.specs.Tables.{Row, table}
use Rattle.script.specs.Texts.{head_row, start_row, goal_row, rule_row, rows, text}
use Rattle.script.specs.declared.refusals.Refusal.TheVariants.{Size}
use Rattle.script.proofs.Due.{First, first}
use Rattle.script.proofs.GoalLines.{GoalLines, goals_are, goals_read}
use Rattle.script.proofs.Kept.{head_in, start_in, Kept, kept, sound_from}
use Rattle.script.proofs.Lines.{head_line, sound_head, start_line, sound_start_at, head_is, head_line_lem, start_is, start_line_lem}
use Rattle.script.proofs.Outcomes.{bind_is, ask_is, from_ok}
use Rattle.script.proofs.Parting.{end, text_from_table}
use Rattle.script.proofs.Rows.{few_states, table_text, text_length}
use Rattle.script.proofs.RuleLines.{RuleLines, rules_are, rules_read}

-- a line of a rule, or the end, is no goal
no_goal :
    (states : ℕ) (rs : List RuleContent) (n : ℕ) (all : List ℕ) →
    goals_on n states all (map rule_row rs ++ end ∷ []) ≡ Ok (record { goals = all; next = n; rows = map rule_row rs ++ end ∷ [] })
no_goal states [] n all = refl
no_goal states (r ∷ rs) n all = refl

-- the rows of a sound script are read as it
rows_read : (c : Content) → Kept c → read_rows (rows c ++ end ∷ []) ≡ Ok c
unfolding read_rows
rows_read c k =
    let few = few_states c k in
    let last = map rule_row c.rules ++ end ∷ [] in
    let some : 0 < length last = rw length-append (omega arith) in
    let after = map goal_row c.goals ++ last in
    let more : 0 < length after = rw length-append (omega arith) in
    let head = head_line_lem 1 (head_row c ∷ start_row c ∷ after) (head_in c) (first (head_row c) (start_row c ∷ after) (omega arith)) k.head in
    let start = start_line_lem 2 c.states c.width (start_row c ∷ after) (start_in c) (first (start_row c) after more) few k.start in
    let (m, goals) = goals_read c.states few last some (no_goal c.states c.rules) 3 [] c.goals k.goals k.rises k.few_goals in
    let rules = rules_read c.states few m [] c.rules k.rules k.few_rules in
    rw (append_assoc (map goal_row c.goals) (map rule_row c.rules) (end ∷ []), head, start, goals, rules)

-- the text of every script is accepted, and reads as that script
pub text_is_accepted : TextIsAccepted
unfolding reading
text_is_accepted c sound = let k = kept c sound in rw (text_length c k, table_text c k) (rows_read c k)

-- the rows are those of a sound script
abbrev RowsOf : List Row → Content → Type 0
RowsOf rs c = Kept c × (rs ≡ rows c ++ end ∷ [])

-- the first row, and those behind it
behind_first : (rs : List Row) (row : Row) → First rs row → rs ≡ row ∷ drop 1 rs
behind_first rs row f = f.is ∙ ap {B = List Row} (λ z. row ∷ z) (sym (ap (drop 1) f.is))

-- a head, a start, goals and rules that stand in the rows make a sound script of those rows
rows_from :
    (rs : List Row) (head : Head) (start : Start) (after : Goals) (rules : List RuleContent) →
    First rs (head_line head) × (sound_head head ≡ true) → First (drop 1 rs) (start_line start) × (sound_start_at head.states head.width start ≡ true) →
    GoalLines head.states [] (drop 2 rs) after → RuleLines head.states [] after.rows rules →
    RowsOf rs (record {
      states = head.states;
      width = head.width;
      depth = head.depth;
      start = start.state;
      marks = start.marks;
      goals = after.goals;
      rules = rules;
    })
rows_from rs head start after rules (h, head_holds) (s, start_holds) (g, rises) r = (
  record {
    head = head_holds;
    start = start_holds;
    goals = ap (list_all (λ x. ltb x head.states)) g.behind ∙ g.each;
    rises = rises;
    few_goals = g.few;
    rules = ap (list_all (sound_rule head.states)) r.behind ∙ r.each;
    few_rules = r.few;
  },
  cc
      (behind_first rs (head_line head) h, behind_first (drop 1 rs) (start_line start) s, drop-drop 1 1 rs, g.lines, r.lines, g.behind, r.behind, append_assoc (map goal_row after.goals) (map rule_row rules) (end ∷ [])),
)

-- rows that are read are those of the script that was read
rows_are : (rs : List Row) (c : Content) → read_rows rs ≡ Ok c → RowsOf rs c
unfolding read_rows
rows_are rs c e =
    let (head, e₀, k₀) = bind_is (head_of 1 rs) _ c e in
    let (start, e₁, k₁) = bind_is (start_of 2 head.states head.width (drop 1 rs)) _ c k₀ in
    let (after, e₂, k₂) = bind_is (goals_on 3 head.states [] (drop 2 rs)) _ c k₁ in
    let (rules, e₃, k₃) = bind_is (rules_on after.next head.states [] after.rows) _ c k₂ in
    subst
    (RowsOf rs)
    (from_ok k₃)
    (rows_from rs head start after rules (head_is 1 rs head e₀) (start_is 2 head.states head.width (drop 1 rs) start e₁) (goals_are head.states 3 [] (drop 2 rs) after (omega arith) refl e₂) (rules_are head.states after.next [] after.rows rules (omega arith) e₃))

-- and keep the rules of a script
pub rows_sound : (rs : List Row) (c : Content) → read_rows rs ≡ Ok c → sound c ≡ true
rows_sound rs c e = sound_from c (rows_are rs c e).0

-- what is accepted is the text of the script that was read
pub accepted_is_text : AcceptedIsText
unfolding reading text
accepted_is_text bytes c e =
    let (fits, k) = ask_is (within 1 4096 (length bytes)) Size (read_rows (table bytes)) c e in
    let (keeps, is) = rows_are (table bytes) c k in
    (sound_from c keeps, text_from_table bytes (rows c) is)
