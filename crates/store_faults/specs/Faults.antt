-- The number of each refusal, and of the table that it names.
use Rattle.std.specs.Prelude.{ℕ, Some, None, Option}
use Rattle.store_faults.specs.declared.faults.Fault.{Fault}
use Rattle.store_faults.specs.declared.faults.Fault.TheVariants.{UnknownVersion, Empty, Full, Foreign, Spent, NoCredit, Count}
use Rattle.store_faults.specs.declared.faults.Table.{Table}
use Rattle.store_faults.specs.declared.faults.Table.TheVariants.{Versions, Items, Cells, Pairs}

-- a refusal's number, and the number of the table that it names or 0
abbrev pub Refusal : Type 0
Refusal = ℕ × ℕ

abbrev pub table_number : Table → ℕ
table_number Versions = 1
table_number Items = 2
table_number Cells = 3
table_number Pairs = 4

abbrev pub refusal_of : Fault → Refusal
refusal_of UnknownVersion = (1, 0)
refusal_of Empty = (2, 0)
refusal_of Full = (3, 0)
refusal_of Foreign = (4, 0)
refusal_of Spent = (5, 0)
refusal_of (NoCredit t) = (6, table_number t)
refusal_of Count = (7, 0)

-- the number of a table that may be missing, or 0
abbrev pub table_of : Option Table → ℕ
table_of (Some t) = table_number t
table_of None = 0
