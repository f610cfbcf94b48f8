-- One call on a store, with the open reservations in slots: what is answered, and what stands afterwards.
use Rattle.std.specs.Prelude.{◌≡◌, ℕ, ◌+◌, ◌-◌, ◌<◌, ◌≤◌, Bool, true, false, cond, not, ◌&&◌, List, length, is_some, Some, None, Option, nat_lt, option_map, slice_index_or, slice_set}
use Rattle.std.specs.List.{slice_get}
use Rattle.store.specs.Deques.{first, last, taken}
use Rattle.store_faults.specs.Faults.{Refusal}
use Rattle.store.specs.History.{fed}
use Rattle.store.specs.Kinds.{Undisturbed}
use Rattle.store.specs.Meanings.{Meaning, credit, list_of_version}
use Rattle.store.specs.Questions.{question_refusal, change_refusal, change_under_refusal, reserve_refusal, close_refusal}
use Rattle.store.specs.Replies.{Outcome, Reply, valued, counted, shown, made, reserved, closed, refused, no_slot, reply_of, accepted}
use Rattle.store.specs.Reservations.{less_one, reservation_of}
use Rattle.store.specs.declared.calls.Call.{Call}
use Rattle.store.specs.declared.calls.Call.TheVariants.{Ask, Make, MakeUnder, Reserve, Close}
use Rattle.store.specs.declared.reservations.Held.{Held}
use Rattle.store.specs.declared.calls.Question.{Question}
use Rattle.store.specs.declared.calls.Question.TheVariants.{Longest, Number, Credit, Promised, Length, Item, Front, Back}
use Rattle.store.specs.declared.changes.Change.{Change}
use Rattle.store.specs.declared.reservations.Reservation.{Reservation}

abbrev pub Slots : Type 0
Slots = List (Option Held)

abbrev pub slot_at : Slots → ℕ → Option Held
slot_at slots i = slice_index_or slots i None

-- what lies in a slot
abbrev pub Holds : Slots → ℕ → Option Held → Type 0
Holds slots i None = slot_at slots i ≡ None
Holds slots i (Some h) = (slot_at slots i ≡ Some h) × (i < length slots)

-- a slot that is there and empty
abbrev pub free : Slots → ℕ → Bool
free slots i = nat_lt i (length slots) && not (is_some (slot_at slots i))

abbrev pub reservation_in : Held → Reservation
reservation_in h = record { held = h }

-- the reply where every question is answered by yes, or else the refusal
abbrev pub unless : {T : Type 0} → Option Refusal → Reply T → Reply T
unless None r = r
unless (Some f) r = refused f

-- with the reservation in a slot
abbrev pub in_slot : {T : Type 0} → Option Held → (Reservation → Reply T) → Reply T
in_slot None f = no_slot
in_slot (Some h) f = f (reservation_in h)

abbrev pub answer_to : {T : Type 0} → Meaning T → Question → Reply T
answer_to m Longest = valued m.longest
answer_to m Number = valued m.number
answer_to m Credit = valued (credit m)
answer_to m Promised = valued m.promised
answer_to m (Length v) = unless (question_refusal m v) (counted (length (list_of_version m v)))
answer_to m (Item v place) = unless (question_refusal m v) (shown (slice_get (list_of_version m v) place))
answer_to m (Front v) = unless (question_refusal m v) (shown (first (list_of_version m v)))
answer_to m (Back v) = unless (question_refusal m v) (shown (last (list_of_version m v)))

abbrev pub made_on : {T : Type 0} → Meaning T → ℕ → Change T → Reply T
made_on m v c = made (length m.versions) (taken c (list_of_version m v))

abbrev pub reply : {T : Type 0} → Meaning T → Slots → Call T → Reply T
reply m slots (Ask q) = answer_to m q
reply m slots (Make v c) = unless (change_refusal m v c) (made_on m v c)
reply m slots (MakeUnder i v c) = in_slot (slot_at slots i) (λ r. unless (change_under_refusal m r v c) (made_on m v c))
reply m slots (Reserve i n) = cond (free slots i) (unless (reserve_refusal m n) reserved) no_slot
reply m slots (Close i) = in_slot (slot_at slots i) (λ r. unless (close_refusal m r) closed)

abbrev pub left_in : Option Held → ℕ
left_in None = 0
left_in (Some h) = h.left

-- the promised count after a call
abbrev pub promised_after : {T : Type 0} → Meaning T → Slots → Call T → Bool → ℕ
promised_after m slots call false = m.promised
promised_after m slots (Ask q) true = m.promised
promised_after m slots (Make v c) true = m.promised
promised_after m slots (MakeUnder i v c) true = m.promised - 1
promised_after m slots (Reserve i n) true = m.promised + n
promised_after m slots (Close i) true = m.promised - left_in (slot_at slots i)

-- the slots after a call
abbrev pub slots_after : {T : Type 0} → Meaning T → Slots → Call T → Bool → Slots
slots_after m slots call false = slots
slots_after m slots (Ask q) true = slots
slots_after m slots (Make v c) true = slots
slots_after m slots (MakeUnder i v c) true = slice_set slots i (option_map less_one (slot_at slots i))
slots_after m slots (Reserve i n) true = slice_set slots i (Some (reservation_of m n).held)
slots_after m slots (Close i) true = slice_set slots i None

-- how a call moves the credit: an accepted change takes one of it or none, and no other call moves a share
abbrev pub Spends : {T : Type 0} → Meaning T → Call T → Bool → Meaning T → Type 0
Spends m call false t = t.shares ≡ m.shares
Spends m (Ask q) true t = t.shares ≡ m.shares
Spends m (Make v c) true t = (credit t ≤ credit m) × (credit m ≤ credit t + 1)
Spends m (MakeUnder i v c) true t = (credit t ≤ credit m) × (credit m ≤ credit t + 1)
Spends m (Reserve i n) true t = t.shares ≡ m.shares
Spends m (Close i) true t = t.shares ≡ m.shares

-- one call, from meaning m and slots p to meaning t and slots q
pub record Answered {T : Type 0} (m : Meaning T) (p : Slots) (call : Call T) (t : Meaning T) (q : Slots) (a : Outcome T) : Type 0 where
  pub answer : reply_of a ≡ reply m p call
  pub versions : t.versions ≡ fed m.versions call (accepted a)
  pub promised : t.promised ≡ promised_after m p call (accepted a)
  pub slots : q ≡ slots_after m p call (accepted a)
  pub longest : t.longest ≡ m.longest
  pub number : t.number ≡ m.number
  pub credit : Spends m call (accepted a) t

-- what the kind promises of a call from store s to store t: a question and a refusal leave the store as it was
abbrev pub Carries : {S T : Type 0} → (S → ℕ → Change T → S → Type 0) → (S → S → Type 0) → S → Call T → Bool → S → Type 0
Carries goes grows s call false t = t ≡ s
Carries goes grows s (Ask q) true t = t ≡ s
Carries goes grows s (Make v c) true t = goes s v c t × grows s t
Carries goes grows s (MakeUnder i v c) true t = goes s v c t × grows s t
Carries goes grows s (Reserve i n) true t = Undisturbed goes s t × grows s t
Carries goes grows s (Close i) true t = Undisturbed goes s t × grows s t
