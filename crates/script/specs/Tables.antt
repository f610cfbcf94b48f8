-- A text as a table: lines that are parted by line feeds, each made of fields that are parted by tabs.
use Rattle.std.specs.Prelude.{ℕ, List, [], ◌∷◌, ◌++◌, map, ◌==◌}
use Rattle.std.specs.List.{join_with_byte, slice_split}

-- a field is a list of bytes, and a row the list of a line's fields
abbrev pub Row : Type 0
Row = List (List ℕ)

-- the parts between the separators: one more than there are separators
abbrev pub parts : ℕ → List ℕ → List (List ℕ)
parts separator text = slice_split (λ b. b == separator) text

abbrev pub join : ℕ → List (List ℕ) → List ℕ
join separator parts = join_with_byte separator parts

-- the last row is what stands behind the last line feed
unfoldable pub table : List ℕ → List Row
table text = map (parts 9) (parts 10 text)

-- a row as a line of the text
abbrev pub line : Row → List ℕ
line row = join 9 row ++ 10 ∷ []
