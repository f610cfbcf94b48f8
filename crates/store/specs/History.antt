-- The version history: the lists of all versions, told from the calls alone. It knows nothing of tables or credit.
use Rattle.std.specs.Prelude.{ℕ, Bool, true, false, List, [], ◌∷◌, ◌++◌, length, Some, None, Option, slice_index_or}
use Rattle.std.specs.List.{slice_get}
use Rattle.store.specs.Deques.{changed, first, last, taken}
use Rattle.store.specs.Replies.{Reply, made, counted, shown}
use Rattle.store.specs.declared.calls.Call.{Call}
use Rattle.store.specs.declared.calls.Call.TheVariants.{Ask, Make, MakeUnder, Reserve, Close}
use Rattle.store.specs.declared.calls.Question.{Question}
use Rattle.store.specs.declared.calls.Question.TheVariants.{Longest, Number, Credit, Promised, Length, Item, Front, Back}
use Rattle.store.specs.declared.changes.Change.{Change}

-- a call's arguments, and whether it was accepted
abbrev pub Fed : Type 0 → Type 0
Fed T = Call T × Bool

-- the lists with one more: list v changed
abbrev pub extended : {T : Type 0} → List (List T) → ℕ → Change T → List (List T)
extended lists v c = lists ++ changed c (slice_index_or lists v []) ∷ []

-- the lists after one call
abbrev pub fed : {T : Type 0} → List (List T) → Call T → Bool → List (List T)
fed lists call false = lists
fed lists (Make v c) true = extended lists v c
fed lists (MakeUnder i v c) true = extended lists v c
fed lists (Ask q) true = lists
fed lists (Reserve i n) true = lists
fed lists (Close i) true = lists

-- the lists after calls, from lists that stood before them
abbrev pub grown : {T : Type 0} → List (List T) → List (Fed T) → List (List T)
grown lists [] = lists
grown lists (f ∷ fs) = grown (fed lists f.0 f.1) fs

-- the lists of a store that was fresh before the calls
abbrev pub history : {T : Type 0} → List (Fed T) → List (List T)
history fs = grown ([] ∷ []) fs

-- what the lists tell of a question; nothing of the account
abbrev pub told_of : {T : Type 0} → List (List T) → Question → Option (Reply T)
told_of lists (Length v) = Some (counted (length (slice_index_or lists v [])))
told_of lists (Item v place) = Some (shown (slice_get (slice_index_or lists v []) place))
told_of lists (Front v) = Some (shown (first (slice_index_or lists v [])))
told_of lists (Back v) = Some (shown (last (slice_index_or lists v [])))
told_of lists Longest = None
told_of lists Number = None
told_of lists Credit = None
told_of lists Promised = None

-- what the lists tell of a call: for an accepted change, the new list's number and any item taken
abbrev pub told : {T : Type 0} → List (List T) → Call T → Bool → Option (Reply T)
told lists call false = None
told lists (Make v c) true = Some (made (length lists) (taken c (slice_index_or lists v [])))
told lists (MakeUnder i v c) true = Some (made (length lists) (taken c (slice_index_or lists v [])))
told lists (Ask q) true = told_of lists q
told lists (Reserve i n) true = None
told lists (Close i) true = None

abbrev pub tellings : {T : Type 0} → List (List T) → List (Fed T) → List (Option (Reply T))
tellings lists [] = []
tellings lists (f ∷ fs) = told lists f.0 f.1 ∷ tellings (fed lists f.0 f.1) fs
