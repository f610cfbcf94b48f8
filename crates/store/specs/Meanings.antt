-- What a store means: the list of each version, and the numbers of its account.
use Rattle.std.specs.Prelude.{◌≡◌, ℕ, ◌+◌, ◌<◌, ◌≤◌, min, cond, List, [], ◌∷◌, length, nat_lt, slice_index_or}

pub record Meaning (T : Type 0) : Type 0 where
  -- the list of each version handed out, that of version 0 first
  pub versions : List (List T)
  -- the length that no list passes
  pub longest : ℕ
  -- the number that the store was opened with
  pub number : ℕ
  -- the changes set aside by reservations
  pub promised : ℕ
  -- each table's share of the credit, in the order of the tables' numbers
  pub shares : List ℕ

abbrev pub least : List ℕ → ℕ
least [] = 0
least (x ∷ []) = x
least (x ∷ y ∷ ys) = min x (least (y ∷ ys))

-- the further changes that are sure to find room
abbrev pub credit : {T : Type 0} → Meaning T → ℕ
credit m = least m.shares

-- the number, counted from i, of the first share below n; 0 where there is none
abbrev pub first_below : ℕ → List ℕ → ℕ → ℕ
first_below i [] n = 0
first_below i (x ∷ xs) n = cond (nat_lt x n) i (first_below (i + 1) xs n)

-- the number of the first table that is too short for n changes, or 0
abbrev pub short_table : {T : Type 0} → Meaning T → ℕ → ℕ
short_table m n = first_below 1 m.shares n

abbrev pub list_of_version : {T : Type 0} → Meaning T → ℕ → List T
list_of_version m v = slice_index_or m.versions v []

abbrev pub with_promised : {T : Type 0} → Meaning T → ℕ → Meaning T
with_promised m n =
    record {
      versions = m.versions;
      longest = m.longest;
      number = m.number;
      promised = n;
      shares = m.shares;
    }

-- what holds of a store of every kind
pub record Sound {T : Type 0} (m : Meaning T) : Type 0 where
  pub opened : 0 < length m.versions
  pub empty : list_of_version m 0 ≡ []
  pub covered : m.promised ≤ credit m
  pub bounded : (v : ℕ) → length (list_of_version m v) ≤ m.longest
  pub tables : 0 < length m.shares
