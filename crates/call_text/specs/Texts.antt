-- A text of calls, and the first bad line of a text that is none.
use Rattle.std.specs.Prelude.{◌≡◌, ◌≢◌, ℕ, ◌+◌, List, [], ◌++◌, length, Some, None, Ok, Err, All, Option, Result}
use Rattle.call_lines.specs.Lines.{line_row, opening_row}
use Rattle.call_lines.specs.Ranges.{LineFits, OpeningFits}
use Rattle.call_lines.specs.declared.lines.Line.{Line}
use Rattle.call_lines.specs.declared.lines.Opening.{Opening}
use Rattle.call_text.specs.declared.errors.TextError.{TextError}
use Rattle.call_text.specs.declared.errors.TextError.TheVariants.{Line as BadLine, Memory}
use Rattle.call_text.specs.declared.texts.CallText.{CallText}
use Rattle.script.specs.Tables.{Row, join, line}
use Rattle.std.specs.List.{flat_map}

-- an opening, and then any number of lines
abbrev pub call_text : Opening → List Line → List ℕ
call_text o lines = line (opening_row o) ++ flat_map (λ l. line (line_row l)) lines

-- the text of these, and their numbers are in their ranges
pub record IsCallText (text : List ℕ) (o : Opening) (lines : List Line) : Type 0 where
  pub opening_fits : OpeningFits o
  pub lines_fit : All LineFits lines
  pub written : text ≡ call_text o lines

-- the bytes begin with no line of this form
abbrev pub BeginsWithNone : {A : Type 0} → (A → Row) → (A → Type 0) → List ℕ → Type 0
BeginsWithNone {A} row Fits bytes = (a : A) (rest : List ℕ) → Fits a → bytes ≢ line (row a) ++ rest

-- the first bad line of a text, counted from 1: the opening is bad, or a text of calls stands in front, and what stands
-- behind it is not empty and begins with no line
pub data FirstBad (text : List ℕ) : ℕ → Type 0 where
  opening : BeginsWithNone opening_row OpeningFits text → FirstBad text 1
  later : {front rest : List ℕ} {o : Opening} {lines : List Line} → text ≡ front ++ rest → IsCallText front o lines → rest ≢ [] → BeginsWithNone line_row LineFits rest → FirstBad text (length lines + 2)

-- what is read of a line without its line feed
abbrev pub Says : {A : Type 0} → (A → Row) → (A → Type 0) → List ℕ → Option A → Type 0
Says {A} row Fits bytes None = (a : A) → Fits a → bytes ≢ join 9 (row a)
Says {A} row Fits bytes (Some a) = Fits a × (bytes ≡ join 9 (row a))

-- what is read of a text
abbrev pub Read : List ℕ → Result CallText TextError → Type 0
Read text (Ok t) = IsCallText text t.opening t.lines.items
Read text (Err (BadLine n)) = FirstBad text n
Read text (Err Memory) = Unit {0}

-- a text of calls has no other reading and no bad line, and a text with a bad line has no reading and no other first one
abbrev pub Settled : List ℕ → Result CallText TextError → Type 0
Settled text (Ok t) =
    ((o : Opening) (lines : List Line) → IsCallText text o lines → (o ≡ t.opening) × (lines ≡ t.lines.items)) × ((n : ℕ) → ¬ FirstBad text n)
Settled text (Err (BadLine n)) =
    ((o : Opening) (lines : List Line) → ¬ IsCallText text o lines) × ((m : ℕ) → FirstBad text m → m ≡ n)
Settled text (Err Memory) = Unit {0}
