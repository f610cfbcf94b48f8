-- A push that is set aside first: the credit is asked for before the version and its length.
use Rattle.std.specs.Prelude.{◌≡◌, ℕ, Some, None, Option, Result}
use Rattle.store.specs.Changes.{Made}
use Rattle.store_faults.specs.Faults.{Refusal}
use Rattle.store.specs.Meanings.{Meaning}
use Rattle.store.specs.Questions.{ask_version, ask_length, ask_credit, Follows}
use Rattle.store.specs.declared.changes.Change.TheVariants.{Push}
use Rattle.store_faults.specs.declared.faults.Fault.{Fault}

-- the first of two refusals
abbrev pub either : Option Refusal → Option Refusal → Option Refusal
either None q = q
either (Some r) q = Some r

abbrev pub PushedReserved : {T : Type 0} → Meaning T → ℕ → T → Meaning T → Result ℕ Fault → Type 0
PushedReserved m v x t answer =
    Follows
    (either (ask_credit m 1) (ask_version m v (ask_length m v (Push x) None)))
    (λ w. Made m v (Push x) m.promised t w)
    (t ≡ m)
    answer
