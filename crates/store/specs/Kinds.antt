-- What a kind of store promises beyond its meaning, in two relations of its own between stores before and after:
-- `goes`, of an accepted change on a version, and `grows`, of every call.
use Rattle.std.specs.Prelude.{◌≡◌, ℕ, Ok, Err, Result}
use Rattle.store.specs.declared.changes.Change.{Change}

-- it holds of no change at all, and of two stretches joined
pub record Chains {S : Type 0} (grows : S → S → Type 0) : Type 0 where
  pub same : (s : S) → grows s s
  pub joined : (r s t : S) → grows r s → grows s t → grows r t

-- from store s to store t no change after it and none before it is disturbed
abbrev pub Undisturbed : {S T : Type 0} → (S → ℕ → Change T → S → Type 0) → S → S → Type 0
Undisturbed {S} {T} goes s t =
    ((v : ℕ) (c : Change T) (after : S) → goes t v c after → goes s v c after)
    × ((before : S) (v : ℕ) (c : Change T) → goes before v c s → goes before v c t)

-- a change from store s to store t, with its answer: a refused one leaves the store as it was
abbrev pub GoesOn : {S T A E : Type 0} → (S → ℕ → Change T → S → Type 0) → (S → S → Type 0) → S → ℕ → Change T → S → Result A E → Type 0
GoesOn goes grows s v c t (Ok _) = goes s v c t × grows s t
GoesOn goes grows s v c t (Err _) = t ≡ s

-- a reserve or a close from store s to store t, with its answer
abbrev pub Accounts : {S T A E : Type 0} → (S → ℕ → Change T → S → Type 0) → (S → S → Type 0) → S → S → Result A E → Type 0
Accounts goes grows s t (Ok _) = Undisturbed goes s t × grows s t
Accounts goes grows s t (Err _) = t ≡ s
