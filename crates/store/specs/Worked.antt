-- A short version history: push a on 0, push b on 1, inject c on 1, pop 2.
use Rattle.std.specs.Prelude.{◌≡◌, ℕ, true, List, [], ◌∷◌, Some, None}
use Rattle.store.specs.History.{Fed, history, tellings}
use Rattle.store.specs.Replies.{made}
use Rattle.store.specs.declared.calls.Call.TheVariants.{Make}
use Rattle.store.specs.declared.changes.Change.TheVariants.{Push, Inject, Pop}

abbrev pub accepted_calls : ℕ → ℕ → ℕ → List (Fed ℕ)
accepted_calls a b c =
    (Make 0 (Push a), true) ∷ (Make 1 (Push b), true) ∷ (Make 1 (Inject c), true) ∷ (Make 2 Pop, true) ∷ []

-- the lists are none, a, ba, ac and a; the answers are the versions 1 to 4, and b with the last
abbrev pub Worked : Type 0
Worked =
    (a b c : ℕ) →
    (history (accepted_calls a b c) ≡ [] ∷ (a ∷ []) ∷ (b ∷ a ∷ []) ∷ (a ∷ c ∷ []) ∷ (a ∷ []) ∷ [])
    × (tellings ([] ∷ []) (accepted_calls a b c) ≡ Some (made 1 None) ∷ Some (made 2 None) ∷ Some (made 3 None) ∷ Some (made 4 (Some b)) ∷ [])
