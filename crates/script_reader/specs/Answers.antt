-- What a call that reads answers: what the definition says, but for want of memory, which says nothing of the text.
use Rattle.std.specs.Prelude.{◌≡◌, ℕ, true, List, length, is_ok, Ok, Err, Result, ◌≢◌}
use Rattle.script.specs.Contents.{Content}
use Rattle.script.specs.Scripts.{content}
use Rattle.script.specs.Soundness.{sound, within}
use Rattle.script.specs.Texts.{text}
use Rattle.script.specs.declared.errors.ReadError.{ReadError}
use Rattle.script.specs.declared.errors.ReadError.TheVariants.{Refused, Memory}
use Rattle.script.specs.declared.refusals.Refusal.{Refusal}
use Rattle.script.specs.declared.scripts.Script.{Script}

-- `meaning` is what a value of the code stands for in the definitions; a call that needs no memory says what they say
abbrev pub Gives : {X Y : Type 0} → Result Y Refusal → (X → Y) → Result X Refusal → Type 0
Gives defined meaning (Ok x) = defined ≡ Ok (meaning x)
Gives defined meaning (Err q) = defined ≡ Err q

-- any other may want memory
abbrev pub Answers : {X Y : Type 0} → Result Y Refusal → (X → Y) → Result X ReadError → Type 0
Answers defined meaning (Ok x) = defined ≡ Ok (meaning x)
Answers defined meaning (Err (Refused q)) = defined ≡ Err q
Answers defined meaning (Err Memory) = Unit {0}

-- the same, and memory is wanting only where the definition accepts
abbrev pub AnswersInFull : {X Y : Type 0} → Result Y Refusal → (X → Y) → Result X ReadError → Type 0
AnswersInFull defined meaning (Ok x) = defined ≡ Ok (meaning x)
AnswersInFull defined meaning (Err (Refused q)) = defined ≡ Err q
AnswersInFull defined meaning (Err Memory) = is_ok defined ≡ true

-- the script that was read stands in the place of the one before, which is as it was where none was read
abbrev pub Replaced : Result Content Refusal → Script → Script → Result (Unit {0}) ReadError → Type 0
Replaced defined before after (Ok u) = defined ≡ Ok (content after)
Replaced defined before after (Err (Refused q)) = (after ≡ before) × (defined ≡ Err q)
Replaced defined before after (Err Memory) = after ≡ before

-- what was read has just this text, and what was refused is the text of no script
abbrev pub Exact : List ℕ → Result Script ReadError → Type 0
Exact bytes (Ok s) = bytes ≡ text (content s)
Exact bytes (Err (Refused q)) = (c : Content) → sound c ≡ true → bytes ≢ text c
Exact bytes (Err Memory) = Unit {0}

-- memory is wanting only for a text of the right size
abbrev pub Sized : List ℕ → Result Script ReadError → Type 0
Sized bytes (Ok s) = Unit {0}
Sized bytes (Err (Refused q)) = Unit {0}
Sized bytes (Err Memory) = within 1 4096 (length bytes) ≡ true
