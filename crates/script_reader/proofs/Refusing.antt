-- What leaves a function by `?` is what was refused below it.
use Rattle.std.proofs.Common.{◌≡◌, true, is_ok, IsErrAnd, Ok, Err, Result}
use Rattle.script.specs.declared.errors.ReadError.{ReadError}
use Rattle.script.specs.declared.errors.ReadError.TheVariants.{Refused, Memory}
use Rattle.script.specs.declared.refusals.Refusal.{Refusal}
use Rattle.script_reader.specs.Answers.{Answers, AnswersInFull}

-- a refusal below is one above, and so is want of memory
pub refuses : {W X Y Z : Type 0} (below : Result W Refusal) (low : X → W) (above : Result Y Refusal) (high : Z → Y) (e : ReadError) (r : Result Z ReadError) → IsErrAnd r (λ y. y ≡ e) → Answers below low (Err e) → ((q : Refusal) → below ≡ Err q → above ≡ Err q) → Answers above high r
refuses below low above high e (Ok z) h known on = absurd h
refuses below low above high (Refused q) (Err y) h known on = rw h (on q known)
refuses below low above high Memory (Err y) h known on = rw h tt

-- and want of memory is answered where the definition accepts
pub wants : {X Y : Type 0} (defined : Result Y Refusal) (meaning : X → Y) (r : Result X ReadError) → IsErrAnd r (λ y. y ≡ Memory) → is_ok defined ≡ true → AnswersInFull defined meaning r
wants defined meaning (Ok x) h accepts = absurd h
wants defined meaning (Err y) h accepts = rw h accepts
