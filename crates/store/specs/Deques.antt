-- The four changes on a list, and its two ends.
use Rattle.std.specs.Prelude.{◌-◌, List, [], ◌∷◌, ◌++◌, length, take, drop, Some, None, Option}
use Rattle.store.specs.declared.changes.Change.{Change}
use Rattle.store.specs.declared.changes.Change.TheVariants.{Push, Inject, Pop, Eject}

abbrev pub first : {T : Type 0} → List T → Option T
first [] = None
first (x ∷ xs) = Some x

abbrev pub last : {T : Type 0} → List T → Option T
last [] = None
last (x ∷ []) = Some x
last (x ∷ y ∷ ys) = last (y ∷ ys)

-- the list after a change
abbrev pub changed : {T : Type 0} → Change T → List T → List T
changed (Push x) l = x ∷ l
changed (Inject x) l = l ++ x ∷ []
changed Pop l = drop 1 l
changed Eject l = take (length l - 1) l

-- the item that a change takes
abbrev pub taken : {T : Type 0} → Change T → List T → Option T
taken (Push x) l = None
taken (Inject x) l = None
taken Pop l = first l
taken Eject l = last l
