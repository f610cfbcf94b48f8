-- Only texts of the right size are read, and only the texts of scripts are accepted.
use Rattle.std.proofs.Common.{◌≡◌, ℕ, true, false, List, length, Ok, Err, Result, ap}
use Rattle.script.proofs.Laws.{accepted_is_text, text_is_accepted}
use Rattle.script.specs.Reading.{read_rows, reading}
use Rattle.script.specs.Scripts.{content}
use Rattle.script.specs.Soundness.{within}
use Rattle.script.specs.Tables.{table}
use Rattle.script.specs.declared.errors.ReadError.{ReadError}
use Rattle.script.specs.declared.errors.ReadError.TheVariants.{Refused, Memory}
use Rattle.script.specs.declared.refusals.Refusal.TheVariants.{Size}
use Rattle.script.specs.declared.scripts.Script.{Script}
use Rattle.script_reader.specs.Answers.{Answers, Exact, Sized}

pub refused_size : (bytes : List ℕ) → within 1 4096 (length bytes) ≡ false → reading bytes ≡ Err Size
unfolding reading
refused_size bytes h = rw h

pub read_size : (bytes : List ℕ) → within 1 4096 (length bytes) ≡ true → reading bytes ≡ read_rows (table bytes)
unfolding reading
read_size bytes h = rw h

pub exactly : (bytes : List ℕ) (r : Result Script ReadError) → Answers (reading bytes) content r → Exact bytes r
exactly bytes (Ok s) h = (accepted_is_text bytes (content s) h).1
exactly bytes (Err (Refused q)) h = λ c keeps is. cc (ap reading is, text_is_accepted c keeps)
exactly bytes (Err Memory) h = tt

pub size_is_right : (bytes : List ℕ) (r : Result Script ReadError) → within 1 4096 (length bytes) ≡ true → Sized bytes r
size_is_right bytes (Ok s) h = tt
size_is_right bytes (Err (Refused q)) h = tt
size_is_right bytes (Err Memory) h = h
