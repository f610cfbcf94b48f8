-- Changes and questions about a version: what each answers, and what a store means afterwards.
use Rattle.std.specs.Prelude.{◌≡◌, ℕ, ◌+◌, ◌<◌, ◌≤◌, [], ◌∷◌, ◌++◌, length, Some, None, Option, Result}
use Rattle.store.specs.Deques.{changed, taken}
use Rattle.store.specs.Meanings.{Meaning, credit, list_of_version}
use Rattle.store.specs.Questions.{ask_version, ask_length, ask_credit, question_refusal, change_refusal, Follows}
use Rattle.store.specs.declared.changes.Change.{Change}
use Rattle.store.specs.declared.changes.Change.TheVariants.{Push, Inject, Pop, Eject}
use Rattle.store_faults.specs.declared.faults.Fault.{Fault}

-- change c on version v of m made t, with p changes promised after it, and handed out version w
pub record Made {T : Type 0} (m : Meaning T) (v : ℕ) (c : Change T) (p : ℕ) (t : Meaning T) (w : ℕ) : Type 0 where
  pub version : w ≡ length m.versions
  pub versions : t.versions ≡ m.versions ++ changed c (list_of_version m v) ∷ []
  pub longest : t.longest ≡ m.longest
  pub number : t.number ≡ m.number
  pub promised : t.promised ≡ p
  pub lower : credit t ≤ credit m
  pub near : credit m ≤ credit t + 1

-- a change that is made answers the new version, and the item taken
abbrev pub Makes : {T : Type 0} → Meaning T → ℕ → Change T → Meaning T → ℕ × Option T → Type 0
Makes m v c t a = (a.1 ≡ taken c (list_of_version m v)) × Made m v c m.promised t a.0

-- any change
abbrev pub Changed : {T : Type 0} → Meaning T → ℕ → Change T → Meaning T → Result (ℕ × Option T) Fault → Type 0
Changed m v c t answer = Follows (change_refusal m v c) (Makes m v c t) (t ≡ m) answer

-- a push or an inject answers the new version
abbrev pub Added : {T : Type 0} → Meaning T → ℕ → Change T → Meaning T → Result ℕ Fault → Type 0
Added m v c t answer = Follows (change_refusal m v c) (λ w. Made m v c m.promised t w) (t ≡ m) answer

-- a pop or an eject answers the item too
abbrev pub Took : {T : Type 0} → Meaning T → ℕ → Change T → Meaning T → Result (ℕ × T) Fault → Type 0
Took m v c t answer = Follows (change_refusal m v c) (λ a. Makes m v c t (a.0, Some a.1)) (t ≡ m) answer

-- the length of a version
abbrev pub Counted : {T : Type 0} → Meaning T → ℕ → Result ℕ Fault → Type 0
Counted m v answer = Follows (question_refusal m v) (λ n. n ≡ length (list_of_version m v)) (Unit {0}) answer

-- an item of a version, or none
abbrev pub Shown : {T : Type 0} → Meaning T → ℕ → Option T → Result (Option T) Fault → Type 0
Shown m v x answer = Follows (question_refusal m v) (λ y. y ≡ x) (Unit {0}) answer

abbrev pub Fit : {T : Type 0} → Meaning T → ℕ → Change T → Type 0
Fit m v (Push x) = length (list_of_version m v) < m.longest
Fit m v (Inject x) = length (list_of_version m v) < m.longest
Fit m v Pop = 0 < length (list_of_version m v)
Fit m v Eject = 0 < length (list_of_version m v)

-- a change that is sure to be made
pub record Ready {T : Type 0} (m : Meaning T) (v : ℕ) (c : Change T) : Type 0 where
  pub known : v < length m.versions
  pub fit : Fit m v c
  pub sure : m.promised < credit m

-- whether the version was handed out and its length lets the change be made
abbrev pub Fits : {T : Type 0} → Meaning T → ℕ → Change T → Result (Unit {0}) Fault → Type 0
Fits m v c answer =
    Follows (ask_version m v (ask_length m v c None)) (λ _. (v < length m.versions) × Fit m v c) (Unit {0}) answer

-- what is promised with n changes more, where the credit covers them
abbrev pub Covered : {T : Type 0} → Meaning T → ℕ → Result ℕ Fault → Type 0
Covered m n answer =
    Follows (ask_credit m n) (λ p. (p ≡ m.promised + n) × (p ≤ credit m)) (Unit {0}) answer
