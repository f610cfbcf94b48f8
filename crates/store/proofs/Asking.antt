-- Which table is named where changes are too many.
use Rattle.std.proofs.Common.{◌≡◌, ℕ, ◌+◌, ◌<◌, List, [], ◌∷◌, length, Some, None, Option, IsSome, refl, arith}
use Rattle.std.proofs.lemmas.Bool.Decides.{nat_tests}
use Rattle.store_faults.specs.Faults.{table_of}
use Rattle.store_faults.specs.declared.faults.Table.{Table}
use Rattle.store.specs.Meanings.{least, first_below}

-- where n changes are too many, some share is below n
too_many : (i : ℕ) (xs : List ℕ) (n : ℕ) → 0 < i → 0 < length xs → least xs < n → 0 < first_below i xs n
too_many i [] n p l h = absurd (omega arith)
too_many i (x ∷ []) n p l h = grind (arith, nat_tests)
too_many i (x ∷ y ∷ ys) n p l h = grind (arith, nat_tests, too_many (i + 1) (y ∷ ys) n)

pub short_named : (t : Option Table) (xs : List ℕ) (n : ℕ) → 0 < length xs → least xs < n → table_of t ≡ first_below 1 xs n → IsSome t
short_named (Some t) xs n l h e = refl
short_named None xs n l h e = absurd (omega (arith, too_many 1 xs n (omega arith) l h))
