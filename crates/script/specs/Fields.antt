-- What a field says: a number, a state, marks or acts, or why it is refused at line n.
use Rattle.std.specs.Prelude.{ℕ, ◌+◌, ◌-◌, ◌*◌, Bool, if◌then◌else◌, not, ◌&&◌, List, [], ◌∷◌, length, Some, None, Ok, Err, Option, Result, ◌==◌, nat_le, nat_lt, slice_index_or}
use Rattle.std.specs.List.{list_all}
use Rattle.std.specs.Option.{ok_or}
use Rattle.script.specs.Soundness.{within, is_mark}
use Rattle.script.specs.Tables.{Row}
use Rattle.script.specs.declared.rules.Act.{Act}
use Rattle.script.specs.declared.rules.Act.TheVariants.{Push, Inject, Pop, Eject}
use Rattle.script.specs.declared.refusals.Refusal.{Refusal}
use Rattle.script.specs.declared.refusals.Refusal.TheVariants.{Number, Range, Letters}

infixl 20 ◌>>=◌
infixl 20 ◌>>◌
-- the second goes on from what the first gives, and the first refusal is the answer
abbrev pub ◌>>=◌ : {X Y E : Type 0} → Result X E → (X → Result Y E) → Result Y E
◌>>=◌ (Ok x) f = f x
◌>>=◌ (Err e) f = Err e

abbrev pub ◌>>◌ : {X Y E : Type 0} → Result X E → Result Y E → Result Y E
◌>>◌ r s = r >>= λ _. s

-- a condition that has to hold, or else the refusal
abbrev pub ask : {E : Type 0} → Bool → E → Result (Unit {0}) E
ask b e = if b then Ok tt else Err e

-- the field at a place of the row, counted from 0
abbrev pub field : ℕ → Row → List ℕ
field k row = slice_index_or row k []

abbrev pub is_digit : ℕ → Bool
is_digit b = within 48 57 b

-- one to three digits, the first of several not 0
abbrev pub numeral : List ℕ → Option ℕ
numeral [] = None
numeral (a ∷ []) = if is_digit a then Some (a - 48) else None
numeral (a ∷ b ∷ []) = if is_digit a && is_digit b && not (a == 48) then Some (10 * (a - 48) + (b - 48)) else None
numeral (a ∷ b ∷ c ∷ []) =
    if is_digit a && is_digit b && is_digit c && not (a == 48) then Some (100 * (a - 48) + 10 * (b - 48) + (c - 48)) else None
numeral (a ∷ b ∷ c ∷ d ∷ more) = None

unfoldable pub numeral_in : ℕ → List ℕ → Result ℕ Refusal
numeral_in n f = ok_or (numeral f) (Number n)

unfoldable pub number_in : ℕ → ℕ → ℕ → List ℕ → Result ℕ Refusal
number_in n low high f = do
  v ← numeral_in n f
  ask (within low high v) (Range n)
  Ok v

unfoldable pub state_in : ℕ → ℕ → List ℕ → Result ℕ Refusal
state_in n states f = do
  v ← numeral_in n f
  ask (nat_lt v states) (Range n)
  Ok v

unfoldable pub marks_in : ℕ → ℕ → List ℕ → Result (List ℕ) Refusal
marks_in n most f = do
  ask (list_all is_mark f && nat_le (length f) most) (Letters n)
  Ok f

abbrev pub act_by : ℕ → ℕ → Option Act
act_by letter m =
    if letter == 117 then Some (Push m)
    else if letter == 105 then Some (Inject m)
    else if letter == 111 then Some (Pop m)
    else if letter == 101 then Some (Eject m)
    else None

abbrev pub act_of : ℕ → ℕ → Option Act
act_of letter m = if is_mark m then act_by letter m else None

-- one act before others, where each is there
abbrev pub before : Option Act → Option (List Act) → Option (List Act)
before None rest = None
before (Some a) None = None
before (Some a) (Some rest) = Some (a ∷ rest)

-- a letter and a mark for each act
abbrev pub acts : List ℕ → Option (List Act)
acts [] = Some []
acts (letter ∷ []) = None
acts (letter ∷ m ∷ rest) = before (act_of letter m) (acts rest)

unfoldable pub acts_in : ℕ → List ℕ → Result (List Act) Refusal
acts_in n f = do
  all ← ok_or (acts f) (Letters n)
  ask (nat_le (length all) 4) (Letters n)
  Ok all
