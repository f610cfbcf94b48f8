-- What is read of a field or of a line's fields, by the form that says how each value is written.
use Rattle.std.specs.Prelude.{◌≡◌, ℕ, Some, Option, IfSome}
use Rattle.call_lines.specs.Lines.{change_row}
use Rattle.call_lines.specs.Ranges.{ChangeFits}
use Rattle.script.specs.Tables.{Row}
use Rattle.store.specs.declared.changes.Change.{Change}

pub record Reads {A B : Type 0} (form : A → B) (Fits : A → Type 0) (written : B) (answer : Option A) : Type 0 where
  -- only a value that fits is read
  pub fits : IfSome answer Fits
  -- every value that fits and is written so is read
  pub every : (a : A) → Fits a → written ≡ form a → answer ≡ Some a

-- the same of a version and a change
pub record ReadsChange (written : Row) (answer : Option (ℕ × Change ℕ)) : Type 0 where
  pub fits : IfSome answer (λ a. ChangeFits a.0 a.1)
  pub every : (v : ℕ) (c : Change ℕ) → ChangeFits v c → written ≡ change_row v c → answer ≡ Some (v, c)
