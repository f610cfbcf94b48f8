-- The text of a script, line by line.
use Rattle.std.proofs.Common.{◌≡◌, ◌++◌, vec_items, arith}
use Rattle.script.specs.Contents.{rule_content}
use Rattle.script.specs.Scripts.{content}
use Rattle.script.specs.Tables.{line}
use Rattle.script.specs.Texts.{goal_row, head_row, rule_row, start_row, text}
use Rattle.script.specs.declared.scripts.Script.{Script}
use Rattle.std.proofs.lemmas.Grind.{common_steps}
use Rattle.std.proofs.lemmas.List.Folds.{flat_map-map}
use Rattle.std.specs.List.{flat_map}

pub by_lines : (s : Script) → text (content s) ≡ line (head_row (content s)) ++ line (start_row (content s)) ++ flat_map (λ g. line (goal_row g)) (vec_items s.goals) ++ flat_map (λ r. line (rule_row (rule_content r))) (vec_items s.rules)
unfolding text
by_lines s = grind (arith, common_steps, flat_map-map)
