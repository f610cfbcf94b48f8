-- What becomes of a call, as numbers and values.
use Rattle.std.specs.Prelude.{ℕ, Bool, true, false, Some, None, Ok, Err, Option, Result}
use Rattle.store_faults.specs.Faults.{Refusal, refusal_of}
use Rattle.store.specs.declared.calls.Answer.{Answer}
use Rattle.store.specs.declared.calls.Answer.TheVariants.{Value, Length, Item, Made, Reserved, Closed}
use Rattle.store.specs.declared.calls.CallError.{CallError}
use Rattle.store.specs.declared.calls.CallError.TheVariants.{Refused, NoSlot}

-- what becomes of a call
abbrev pub Outcome : Type 0 → Type 0
Outcome T = Result (Answer T) CallError

pub data Reply (T : Type 0) : Type 0 where
  valued : ℕ → Reply T
  counted : ℕ → Reply T
  shown : Option T → Reply T
  made : ℕ → Option T → Reply T
  reserved : Reply T
  closed : Reply T
  refused : Refusal → Reply T
  no_slot : Reply T

abbrev pub reply_of : {T : Type 0} → Outcome T → Reply T
reply_of (Ok (Value n)) = valued n
reply_of (Ok (Length n)) = counted n
reply_of (Ok (Item x)) = shown x
reply_of (Ok (Made w x)) = made w x
reply_of (Ok Reserved) = reserved
reply_of (Ok Closed) = closed
reply_of (Err (Refused f)) = refused (refusal_of f)
reply_of (Err NoSlot) = no_slot

abbrev pub accepts : {T : Type 0} → Reply T → Bool
accepts (valued n) = true
accepts (counted n) = true
accepts (shown x) = true
accepts (made w x) = true
accepts reserved = true
accepts closed = true
accepts (refused f) = false
accepts no_slot = false

abbrev pub accepted : {T : Type 0} → Outcome T → Bool
accepted a = accepts (reply_of a)

-- a reply that lists alone can tell
abbrev pub of_lists : {T : Type 0} → Reply T → Option (Reply T)
of_lists (valued n) = None
of_lists (counted n) = Some (counted n)
of_lists (shown x) = Some (shown x)
of_lists (made w x) = Some (made w x)
of_lists reserved = None
of_lists closed = None
of_lists (refused f) = None
of_lists no_slot = None
