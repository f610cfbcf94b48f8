-- What is read of a line by its fields, where the value is written again and compared.
use Rattle.std.proofs.Common.{◌≡◌, ℕ, List, Some, None, Ok, Err, Option, Result, IfSome, IfOk, sym, ap, ◌∙◌}
use Rattle.call_text.specs.Reading.{Reads}
use Rattle.call_text.specs.Texts.{Says}
use Rattle.script.proofs.Parting.{Plain, row_parts}
use Rattle.script.specs.Tables.{Row, join, parts}

module _ {A : Type 0} (row : A → Row) (Fits : A → Type 0) (plain : (a : A) → Fits a → Plain (row a)) (bytes : List ℕ) (parsed : Option A) (reads : Reads row Fits (parts 9 bytes) parsed) where
  -- what is answered was parsed, and is written as these bytes; what was parsed and is written so is answered
  abbrev pub Written : Option A → Type 0
  Written answer = IfSome answer (λ a. (parsed ≡ Some a) × (bytes ≡ join 9 (row a)))

  abbrev pub Every : Option A → Type 0
  Every answer = (a : A) → parsed ≡ Some a → Some (join 9 (row a)) ≡ Some bytes → answer ≡ Some a

  said : (answer : Option A) → Written answer → Every answer → Says row Fits bytes answer
  said None written every =
      λ a fits e.
      let fields : parts 9 bytes ≡ row a = ap (parts 9) e ∙ row_parts (row a) (plain a fits) in
      let none : None ≡ Some a = every a (reads.every a fits fields) (ap Some (sym e)) in
      cc
  said (Some a) written every = let fits = reads.fits in (rw written.0 at fits, written.1)

  pub said_if_ok : {E : Type 0} (r : Result (Option A) E) → IfOk r Written → IfOk r Every → IfOk r (Says row Fits bytes)
  said_if_ok (Ok answer) written every = said answer written every
  said_if_ok (Err x) written every = tt
