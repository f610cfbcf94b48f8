-- What the open reservations have left goes up and down with the promised count.
use Rattle.std.proofs.Common.{◌≡◌, ℕ, zero, suc, ◌+◌, ◌-◌, ◌<◌, ◌≤◌, Bool, true, false, cond, [], ◌∷◌, length, set, Some, None, Option, option_map, sym, refl, ap, ◌∙◌, arith}
use Rattle.std.proofs.lemmas.Bool.Decides.{nat_tests}
use Rattle.std.proofs.lemmas.List.{get_or_past}
use Rattle.store.specs.Calls.{Slots, Answered, slot_at, free, reservation_in, unless, in_slot, made_on, reply, left_in, promised_after, slots_after}
use Rattle.store.specs.Meanings.{Meaning}
use Rattle.store.specs.Questions.{belongs, change_under_refusal, reserve_refusal, close_refusal}
use Rattle.store.specs.Replays.{left_for, pledged}
use Rattle.store.specs.Replies.{Outcome, reserved, closed, no_slot, accepts, accepted}
use Rattle.store.specs.Reservations.{less_one, reservation_of}
use Rattle.store.specs.declared.calls.Call.{Call}
use Rattle.store.specs.declared.calls.Call.TheVariants.{Ask, Make, MakeUnder, Reserve, Close}
use Rattle.store.specs.declared.changes.Change.{Change}
use Rattle.store.specs.declared.changes.Change.TheVariants.{Push, Inject, Pop, Eject}
use Rattle.store.specs.declared.reservations.Held.{Held}
use Rattle.store.specs.declared.reservations.Reservation.{Reservation}

pledged_set : (k : ℕ) (s : Slots) (i : ℕ) (x : Option Held) → i < length s → pledged k (set s i x) + left_for k (slot_at s i) ≡ pledged k s + left_for k x
pledged_set k [] i x h = absurd (omega arith)
pledged_set k (y ∷ s) zero x h = omega arith
pledged_set k (y ∷ s) (suc i) x h = omega (arith, pledged_set k s i x (omega arith))

-- what is in a slot lies inside
inside : (s : Slots) (i : ℕ) (h : Held) → slot_at s i ≡ Some h → i < length s
inside s i h e = grind (arith, get_or_past s i None)

module _ {T : Type 0} where
  belongs_if : (m : Meaning T) (r : Reservation) → belongs m r ≡ true → (r.held.number ≡ m.number) × (r.held.left ≤ m.promised)
  belongs_if m r e = grind (arith, nat_tests)

  under_if : (m : Meaning T) (r : Reservation) (v : ℕ) (c : Change T) → change_under_refusal m r v c ≡ None → (belongs m r ≡ true) × (0 < r.held.left)
  under_if m r v (Push x) e = grind (arith, nat_tests)
  under_if m r v (Inject x) e = grind (arith, nat_tests)
  under_if m r v Pop e = grind (arith, nat_tests)
  under_if m r v Eject e = grind (arith, nat_tests)

  making : (m : Meaning T) (s : Slots) (i v : ℕ) (c : Change T) (o : Option Held) → slot_at s i ≡ o → accepts (in_slot o (λ r. unless (change_under_refusal m r v c) (made_on m v c))) ≡ true → (m.promised - 1) + pledged m.number s ≡ m.promised + pledged m.number (set s i (option_map less_one o))
  making m s i v c None q e = cc
  making m s i v c (Some h) q e =
      let u = under_if m (reservation_in h) v c in
      let b = belongs_if m (reservation_in h) in
      let p = pledged_set m.number s i (Some (less_one h)) (inside s i h q) in
      grind (arith, nat_tests)

  closing : (m : Meaning T) (s : Slots) (i : ℕ) (o : Option Held) → slot_at s i ≡ o → accepts (in_slot {T = T} o (λ r. unless (close_refusal m r) closed)) ≡ true → (m.promised - left_in o) + pledged m.number s ≡ m.promised + pledged m.number (set s i None)
  closing m s i None q e = cc
  closing m s i (Some h) q e =
      let b = belongs_if m (reservation_in h) in
      let p = pledged_set m.number s i None (inside s i h q) in
      grind (arith, nat_tests)

  reserving : (m : Meaning T) (s : Slots) (i n : ℕ) → accepts {T = T} (cond (free s i) (unless (reserve_refusal m n) reserved) no_slot) ≡ true → (m.promised + n) + pledged m.number s ≡ m.promised + pledged m.number (set s i (Some (reservation_of m n).held))
  reserving m s i n e =
      let p = pledged_set m.number s i (Some (reservation_of m n).held) in
      grind (arith, nat_tests)

  account : (m : Meaning T) (s : Slots) (c : Call T) (b : Bool) → (b ≡ true → accepts (reply m s c) ≡ true) → promised_after m s c b + pledged m.number s ≡ m.promised + pledged m.number (slots_after m s c b)
  account m s c false f = refl
  account m s (Ask q) true f = refl
  account m s (Make v d) true f = refl
  account m s (MakeUnder i v d) true f = making m s i v d (slot_at s i) refl (f refl)
  account m s (Reserve i n) true f = reserving m s i n (f refl)
  account m s (Close i) true f = closing m s i (slot_at s i) refl (f refl)

  pub accounted : (m : Meaning T) (s : Slots) (c : Call T) (t : Meaning T) (u : Slots) (a : Outcome T) → Answered m s c t u a → t.promised + pledged m.number s ≡ m.promised + pledged m.number u
  accounted m s c t u a h =
      rw (h.promised, h.slots) (account m s c (accepted a) (λ e. ap accepts (sym h.answer) ∙ e))
