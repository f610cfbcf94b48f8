-- What the credit promises: as many changes as it says find room, whatever they are.
use Rattle.std.specs.Prelude.{◌≡◌, ◌≢◌, ℕ}
use Rattle.store.specs.Replies.{Outcome, refused, reply_of}
use Rattle.store.specs.declared.calls.Call.{Call}
use Rattle.store.specs.declared.calls.Call.TheVariants.{Make}
use Rattle.store.specs.declared.changes.Change.{Change}

-- a change that no reservation covers
abbrev pub IsPlainChange : {T : Type 0} → Call T → Type 0
IsPlainChange {T} call = (v : ℕ) × (c : Change T) × (call ≡ Make v c)

-- it is not refused for want of room
abbrev pub FindsRoom : {T : Type 0} → Outcome T → Type 0
FindsRoom answer = (table : ℕ) → reply_of answer ≢ refused (6, table)
