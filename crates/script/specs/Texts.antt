-- The text of a script: the grammar, said by the writer.
use Rattle.std.specs.Prelude.{ℕ, List, [], ◌∷◌, ◌++◌, map, codes, decimal}
use Rattle.std.specs.List.{flat_map}
use Rattle.script.specs.Contents.{Content, RuleContent}
use Rattle.script.specs.Tables.{Row, line}
use Rattle.script.specs.declared.rules.Act.{Act}
use Rattle.script.specs.declared.rules.Act.TheVariants.{Push, Inject, Pop, Eject}

-- a letter and the mark: u push, i inject, o pop, e eject
abbrev pub act_text : Act → List ℕ
act_text (Push m) = 117 ∷ m ∷ []
act_text (Inject m) = 105 ∷ m ∷ []
act_text (Pop m) = 111 ∷ m ∷ []
act_text (Eject m) = 101 ∷ m ∷ []

abbrev pub acts_text : List Act → List ℕ
acts_text acts = flat_map act_text acts

-- the first field is the number of the text's form, which is 1
abbrev pub head_row : Content → Row
head_row c = codes "script" ∷ decimal 1 ∷ decimal c.states ∷ decimal c.width ∷ decimal c.depth ∷ []

abbrev pub start_row : Content → Row
start_row c = codes "start" ∷ decimal c.start ∷ c.marks ∷ []

abbrev pub goal_row : ℕ → Row
goal_row g = codes "goal" ∷ decimal g ∷ []

abbrev pub rule_row : RuleContent → Row
rule_row r = codes "rule" ∷ decimal r.from ∷ decimal r.to ∷ acts_text r.acts ∷ []

abbrev pub rows : Content → List Row
rows c = head_row c ∷ start_row c ∷ map goal_row c.goals ++ map rule_row c.rules

unfoldable pub text : Content → List ℕ
text c = flat_map line (rows c)
