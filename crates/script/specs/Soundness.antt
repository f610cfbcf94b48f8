-- The rules that a script keeps: the ranges of its numbers, its marks, goals and acts.
use Rattle.std.specs.Prelude.{ℕ, Bool, true, ◌&&◌, List, [], ◌∷◌, length, nat_le, nat_lt}
use Rattle.std.specs.List.{list_all}
use Rattle.script.specs.Contents.{Content, RuleContent}
use Rattle.script.specs.declared.rules.Act.{Act}
use Rattle.script.specs.declared.rules.Act.TheVariants.{Push, Inject, Pop, Eject}

abbrev pub within : ℕ → ℕ → ℕ → Bool
within low high n = nat_le low n && nat_le n high

-- a mark is a byte from a to z
abbrev pub is_mark : ℕ → Bool
is_mark b = within 97 122 b

abbrev pub mark_of : Act → ℕ
mark_of (Push m) = m
mark_of (Inject m) = m
mark_of (Pop m) = m
mark_of (Eject m) = m

-- each number is above the one before it
abbrev pub rising : List ℕ → Bool
rising [] = true
rising (x ∷ []) = true
rising (x ∷ y ∷ ys) = nat_lt x y && rising (y ∷ ys)

abbrev pub sound_rule : ℕ → RuleContent → Bool
sound_rule states r =
    nat_lt r.from states && nat_lt r.to states && list_all (λ a. is_mark (mark_of a)) r.acts && nat_le (length r.acts) 4

abbrev pub sound_start : Content → Bool
sound_start c = nat_lt c.start c.states && list_all is_mark c.marks && nat_le (length c.marks) c.width

abbrev pub sound_goals : Content → Bool
sound_goals c = list_all (λ g. nat_lt g c.states) c.goals && rising c.goals && nat_le (length c.goals) 8

abbrev pub sound_rules : Content → Bool
sound_rules c = list_all (sound_rule c.states) c.rules && nat_le (length c.rules) 64

unfoldable pub sound : Content → Bool
sound c =
    within 1 64 c.states && within 1 255 c.width && within 0 255 c.depth && sound_start c && sound_goals c && sound_rules c
