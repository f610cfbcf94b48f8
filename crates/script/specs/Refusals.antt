-- The number of each refusal, the line that it names if it names one, and what is printed of it.
use Rattle.std.specs.Prelude.{ℕ, [], ◌∷◌, Some, None, codes, decimal, unwrap_or, Option}
use Rattle.script.specs.Tables.{Row}
use Rattle.script.specs.declared.refusals.Refusal.{Refusal}
use Rattle.script.specs.declared.refusals.Refusal.TheVariants.{Size, Shape, Number, Range, Letters, Sequence}

abbrev pub number_of : Refusal → ℕ
number_of Size = 11
number_of (Shape n) = 12
number_of (Number n) = 14
number_of (Range n) = 15
number_of (Letters n) = 16
number_of (Sequence n) = 17

abbrev pub line_of : Refusal → Option ℕ
line_of Size = None
line_of (Shape n) = Some n
line_of (Number n) = Some n
line_of (Range n) = Some n
line_of (Letters n) = Some n
line_of (Sequence n) = Some n

-- the line that is printed of a refusal: 0 stands for no line
abbrev pub refusal_row : Refusal → Row
refusal_row q = codes "refused" ∷ decimal (number_of q) ∷ decimal (unwrap_or (line_of q) 0) ∷ []
