-- Reservations: what each call with one answers, and what store and reservation are afterwards.
use Rattle.std.specs.Prelude.{◌≡◌, ℕ, ◌+◌, ◌-◌, Some, None, Ok, Err, Option, Result}
use Rattle.store.specs.Changes.{Made}
use Rattle.store.specs.Deques.{taken}
use Rattle.store_faults.specs.Faults.{refusal_of}
use Rattle.store.specs.Meanings.{Meaning, list_of_version, with_promised}
use Rattle.store.specs.Questions.{change_under_refusal, reserve_refusal, close_refusal, Follows}
use Rattle.store.specs.declared.changes.Change.{Change}
use Rattle.store_faults.specs.declared.faults.Fault.{Fault}
use Rattle.store.specs.declared.reservations.Held.{Held}
use Rattle.store.specs.declared.reservations.Kept.{Kept}
use Rattle.store.specs.declared.reservations.Reservation.{Reservation}

-- one change less
abbrev pub less_one : Held → Held
less_one h = record h { left = h.left - 1 }

abbrev pub lowered : Reservation → Reservation
lowered r = record { held = less_one r.held }

-- a change that is made under reservation r takes one from it, which leaves s, and from promised
abbrev pub MakesUnder : {T : Type 0} → Meaning T → Reservation → ℕ → Change T → Meaning T → Reservation → ℕ × Option T → Type 0
MakesUnder m r v c t s a =
    (a.1 ≡ taken c (list_of_version m v)) × Made m v c (m.promised - 1) t a.0 × (s ≡ lowered r)

abbrev pub ChangedUnder : {T : Type 0} → Meaning T → Reservation → ℕ → Change T → Meaning T → Reservation → Result (ℕ × Option T) Fault → Type 0
ChangedUnder m r v c t s answer =
    Follows (change_under_refusal m r v c) (MakesUnder m r v c t s) ((t ≡ m) × (s ≡ r)) answer

abbrev pub AddedUnder : {T : Type 0} → Meaning T → Reservation → ℕ → Change T → Meaning T → Reservation → Result ℕ Fault → Type 0
AddedUnder m r v c t s answer =
    Follows
    (change_under_refusal m r v c)
    (λ w. Made m v c (m.promised - 1) t w × (s ≡ lowered r))
    ((t ≡ m) × (s ≡ r))
    answer

abbrev pub TookUnder : {T : Type 0} → Meaning T → Reservation → ℕ → Change T → Meaning T → Reservation → Result (ℕ × T) Fault → Type 0
TookUnder m r v c t s answer =
    Follows
    (change_under_refusal m r v c)
    (λ a. MakesUnder m r v c t s (a.0, Some a.1))
    ((t ≡ m) × (s ≡ r))
    answer

abbrev pub reservation_of : {T : Type 0} → Meaning T → ℕ → Reservation
reservation_of m n = record { held = record { number = m.number; left = n } }

abbrev pub Reserved : {T : Type 0} → Meaning T → ℕ → Meaning T → Result Reservation Fault → Type 0
Reserved m n t answer =
    Follows
    (reserve_refusal m n)
    (λ r. (r ≡ reservation_of m n) × (t ≡ with_promised m (m.promised + n)))
    (t ≡ m)
    answer

-- a refused close hands the reservation back
abbrev pub Closed : {T : Type 0} → Meaning T → Reservation → Meaning T → Result (Unit {0}) Kept → Type 0
Closed m r t (Ok _) = (close_refusal m r ≡ None) × (t ≡ with_promised m (m.promised - r.held.left))
Closed m r t (Err k) = (close_refusal m r ≡ Some (refusal_of k.fault)) × (k.reservation ≡ r) × (t ≡ m)
