-- What a script of the code holds.
use Rattle.std.specs.Prelude.{List, map, vec_items}
use Rattle.std.specs.Global.{Vec}
use Rattle.script.specs.Contents.{Content, RuleContent, content_of, rule_content}
use Rattle.script.specs.declared.rules.Rule.{Rule}
use Rattle.script.specs.declared.scripts.Script.{Script}

abbrev pub rule_contents : Vec Rule → List RuleContent
rule_contents rules = map rule_content (vec_items rules)

abbrev pub content : Script → Content
content s = content_of s.states s.width s.depth s.start (vec_items s.marks) (vec_items s.goals) (vec_items s.rules)
