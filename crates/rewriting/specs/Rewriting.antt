-- What the rewriting of a text writes: the text of the script that was read, or the line of the refusal.
use Rattle.std.specs.Prelude.{◌≡◌, ℕ, true, List, Ok, Err, Result}
use Rattle.script.specs.Contents.{Content}
use Rattle.script.specs.Refusals.{refusal_row}
use Rattle.script.specs.Soundness.{sound}
use Rattle.script.specs.Tables.{line}
use Rattle.script.specs.Texts.{text}
use Rattle.script.specs.declared.refusals.Refusal.{Refusal}
use Rattle.script_writer.specs.Buffers.{Written}
use Rattle.script_writer.specs.declared.buffers.WriteError.{WriteError}

abbrev pub rewritten : Result Content Refusal → List ℕ
rewritten (Ok c) = text c
rewritten (Err q) = line (refusal_row q)

-- the bytes are the text of a script
abbrev pub IsText : List ℕ → Type 0
IsText bytes = (c : Content) × (sound c ≡ true) × (bytes ≡ text c)

-- the text of a script comes back as it is, and any other is answered by the line of a refusal
pub record Kept (bytes before after : List ℕ) (r : Result ℕ WriteError) : Type 0 where
  pub same : IsText bytes → Written bytes before after r
  pub other : (IsText bytes → ⊥) → (q : Refusal) × Written (line (refusal_row q)) before after r
