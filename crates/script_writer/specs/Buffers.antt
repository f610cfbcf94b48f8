-- What stands in a buffer of the caller's after a text was written there, or was not.
use Rattle.std.specs.Prelude.{◌≡◌, ℕ, ◌<◌, List, ◌++◌, length, drop, Some, None, Ok, Err, Option, Result}
use Rattle.script_writer.specs.declared.buffers.WriteError.{WriteError}
use Rattle.script_writer.specs.declared.buffers.WriteError.TheVariants.{Short, Memory}

-- the number of a refusal to write
abbrev pub write_number : WriteError → Option ℕ
write_number Short = Some 32
write_number Memory = None

-- the whole stands in front, and what lies behind it is as it was; or the buffer is too short, and as it was
abbrev pub Copied : List ℕ → List ℕ → List ℕ → Result ℕ WriteError → Type 0
Copied whole before after (Ok count) = (count ≡ length whole) × (after ≡ whole ++ drop count before)
Copied whole before after (Err Short) = (length before < length whole) × (after ≡ before)
Copied whole before after (Err Memory) = ⊥

-- the same, or there was no memory to make the text, and the buffer is as it was
abbrev pub Written : List ℕ → List ℕ → List ℕ → Result ℕ WriteError → Type 0
Written whole before after (Ok count) = Copied whole before after (Ok count)
Written whole before after (Err Short) = Copied whole before after (Err Short)
Written whole before after (Err Memory) = after ≡ before
