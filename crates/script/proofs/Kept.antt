-- The rules that a sound script keeps, one by one.
use Rattle.std.proofs.Common.{◌≡◌, ◌≤◌, true, ltb, length, arith}
use Rattle.std.specs.List.{list_all}
use Rattle.std.proofs.lemmas.Bool.Decides.{nat_tests}
use Rattle.script.specs.Contents.{Content}
use Rattle.script.specs.Reading.{Head, Start}
use Rattle.script.specs.Soundness.{rising, sound_rule, sound}
use Rattle.script.proofs.Lines.{sound_head, sound_start_at}

-- the head and the start of a script
abbrev pub head_in : Content → Head
head_in c = record { states = c.states; width = c.width; depth = c.depth }

abbrev pub start_in : Content → Start
start_in c = record { state = c.start; marks = c.marks }

-- what it is to be sound, part by part
pub record Kept (c : Content) : Type 0 where
  pub head : sound_head (head_in c) ≡ true
  pub start : sound_start_at c.states c.width (start_in c) ≡ true
  pub goals : list_all (λ g. ltb g c.states) c.goals ≡ true
  pub rises : rising c.goals ≡ true
  pub few_goals : length c.goals ≤ 8
  pub rules : list_all (sound_rule c.states) c.rules ≡ true
  pub few_rules : length c.rules ≤ 64

pub kept : (c : Content) → sound c ≡ true → Kept c
unfolding sound
kept c h =
    record {
      head = grind (arith, nat_tests);
      start = grind (arith, nat_tests);
      goals = grind (arith, nat_tests);
      rises = grind (arith, nat_tests);
      few_goals = grind (arith, nat_tests);
      rules = grind (arith, nat_tests);
      few_rules = grind (arith, nat_tests);
    }

pub sound_from : (c : Content) → Kept c → sound c ≡ true
unfolding sound
sound_from c k = grind (arith, nat_tests)
