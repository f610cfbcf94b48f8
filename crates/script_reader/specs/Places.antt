-- Where a reader stands: the rows of the lines to come, and the fields that are left of a line.
use Rattle.std.specs.Prelude.{◌≡◌, ℕ, ◌+◌, Bool, false, List, [], ◌∷◌, drop, Some, None, Ok, Option, slice_index_or}
use Rattle.std.specs.Borrow.{Bor}
use Rattle.script.specs.Fields.{field}
use Rattle.script.specs.Reading.{blank, due}
use Rattle.script.specs.Tables.{Row, parts, table}
use Rattle.script_reader.specs.declared.field.Field.{Field}
use Rattle.script_reader.specs.declared.line.Line.{Line}
use Rattle.script_reader.specs.declared.reader.Reader.{Reader}

abbrev pub rows_left : Reader → List Row
rows_left r = table r.rest.now

abbrev pub first_row : Reader → Row
first_row r = slice_index_or (rows_left r) 0 []

abbrev pub fields_in : Option (Bor (List ℕ)) → Row
fields_in None = []
fields_in (Some line) = parts 9 line.now

abbrev pub fields_left : Line → Row
fields_left l = fields_in l.rest

-- the only row left has nothing in it
abbrev pub ended : List Row → Bool
ended [] = false
ended (row ∷ []) = blank row
ended (row ∷ next ∷ rows) = false

-- the first field that is left of the line, empty where there is none, and what is left behind it
pub record Passed (before : Line) (passed : Field) (after : Line) : Type 0 where
  pub bytes : passed.bytes.now ≡ field 0 (fields_left before)
  pub line : passed.line ≡ before.number
  pub fields : fields_left after ≡ drop 1 (fields_left before)
  pub number : after.number ≡ before.number

-- the reader went past one line: a step from one reader to the next, which no invariant of a reader can hold
pub record Onward (before after : Reader) : Type 0 where
  pub rows : rows_left after ≡ drop 1 (rows_left before)
  pub line : after.line ≡ before.line + 1

-- the reader went past one line, which is as it was due, and of which the fields behind the first are left
pub record Opened (word : List ℕ) (count : ℕ) (before after : Reader) (line : Line) : Type 0 where
  pub row : due (before.line + 1) word count (rows_left before) ≡ Ok (first_row before)
  pub fields : fields_left line ≡ drop 1 (first_row before)
  pub number : line.number ≡ before.line + 1
  pub onward : Onward before after
