-- The questions before each call, in their order. The first no is the refusal; None says that every answer is yes.
use Rattle.std.specs.Prelude.{◌≡◌, ℕ, ◌+◌, Bool, cond, ◌&&◌, length, Some, None, Ok, Err, Option, Result, ◌==◌, nat_le, nat_lt}
use Rattle.store_faults.specs.Faults.{Refusal, refusal_of}
use Rattle.store.specs.Meanings.{Meaning, credit, short_table, list_of_version}
use Rattle.store.specs.declared.changes.Change.{Change}
use Rattle.store.specs.declared.changes.Change.TheVariants.{Push, Inject, Pop, Eject}
use Rattle.store_faults.specs.declared.faults.Fault.{Fault}
use Rattle.store.specs.declared.reservations.Reservation.{Reservation}

-- a question, the number of its no, and the questions after it
abbrev pub ask : Bool → ℕ → Option Refusal → Option Refusal
ask b n rest = cond b rest (Some (n, 0))

-- was the version handed out?
abbrev pub known : {T : Type 0} → Meaning T → ℕ → Bool
known m v = nat_lt v (length m.versions)

abbrev pub ask_version : {T : Type 0} → Meaning T → ℕ → Option Refusal → Option Refusal
ask_version m v rest = ask (known m v) 1 rest

-- does the version hold an item to take, or is it shorter than the longest?
abbrev pub ask_length : {T : Type 0} → Meaning T → ℕ → Change T → Option Refusal → Option Refusal
ask_length m v (Push x) rest = ask (nat_lt (length (list_of_version m v)) m.longest) 3 rest
ask_length m v (Inject x) rest = ask (nat_lt (length (list_of_version m v)) m.longest) 3 rest
ask_length m v Pop rest = ask (nat_lt 0 (length (list_of_version m v))) 2 rest
ask_length m v Eject rest = ask (nat_lt 0 (length (list_of_version m v))) 2 rest

-- do n changes more stay within the credit? A no names the first table that is too short
abbrev pub ask_credit : {T : Type 0} → Meaning T → ℕ → Option Refusal
ask_credit m n = cond (nat_le (m.promised + n) (credit m)) None (Some (6, short_table m (m.promised + n)))

-- is the reservation of this store's number, and what it has left not above promised?
abbrev pub belongs : {T : Type 0} → Meaning T → Reservation → Bool
belongs m r = r.held.number == m.number && nat_le r.held.left m.promised

abbrev pub question_refusal : {T : Type 0} → Meaning T → ℕ → Option Refusal
question_refusal m v = ask_version m v None

abbrev pub change_refusal : {T : Type 0} → Meaning T → ℕ → Change T → Option Refusal
change_refusal m v c = ask_version m v (ask_length m v c (ask_credit m 1))

abbrev pub change_under_refusal : {T : Type 0} → Meaning T → Reservation → ℕ → Change T → Option Refusal
change_under_refusal m r v c =
    ask_version m v (ask_length m v c (ask (belongs m r) 4 (ask (nat_lt 0 r.held.left) 5 None)))

abbrev pub reserve_refusal : {T : Type 0} → Meaning T → ℕ → Option Refusal
reserve_refusal m n = ask (nat_le 1 n && nat_le n 255) 7 (ask_credit m n)

abbrev pub close_refusal : {T : Type 0} → Meaning T → Reservation → Option Refusal
close_refusal m r = ask (belongs m r) 4 None

-- an answer that follows its questions: what is so where all were answered by yes, and what is so at a refusal
abbrev pub Follows : {A : Type 0} → Option Refusal → (A → Type 0) → Type 0 → Result A Fault → Type 0
Follows q accepted refused (Ok a) = (q ≡ None) × accepted a
Follows q accepted refused (Err f) = (q ≡ Some (refusal_of f)) × refused
