-- What a script holds, without the vectors that hold it.
use Rattle.std.specs.Prelude.{ℕ, List, map, vec_items}
use Rattle.script.specs.declared.rules.Act.{Act}
use Rattle.script.specs.declared.rules.Rule.{Rule}

pub record RuleContent : Type 0 where
  pub from : ℕ
  pub to : ℕ
  pub acts : List Act

pub record Content : Type 0 where
  pub states : ℕ
  pub width : ℕ
  pub depth : ℕ
  pub start : ℕ
  pub marks : List ℕ
  pub goals : List ℕ
  pub rules : List RuleContent

abbrev pub rule_content : Rule → RuleContent
rule_content r = record { from = r.from; to = r.to; acts = vec_items r.acts }

abbrev pub content_of : ℕ → ℕ → ℕ → ℕ → List ℕ → List ℕ → List Rule → Content
content_of states width depth start marks goals rules =
    record { states = states; width = width; depth = depth; start = start; marks = marks; goals = goals; rules = map rule_content rules }
