-- The ends of a list are items at places.
use Rattle.std.proofs.Common.{◌≡◌, ℕ, zero, suc, ◌+◌, ◌<◌, List, [], ◌∷◌, length, None, IsSome, refl, arith}
use Rattle.std.specs.List.{slice_get}
use Rattle.store.specs.Deques.{first, last}

module _ {T : Type 0} where
  pub first_nth : (l : List T) → slice_get l 0 ≡ first l
  first_nth [] = refl
  first_nth (x ∷ xs) = refl

  pub last_nth : (l : List T) (n : ℕ) → length l ≡ n + 1 → slice_get l n ≡ last l
  last_nth [] n e = absurd (omega arith)
  last_nth (x ∷ []) zero e = refl
  last_nth (x ∷ []) (suc n) e = absurd (omega arith)
  last_nth (x ∷ y ∷ ys) zero e = absurd (omega arith)
  last_nth (x ∷ y ∷ ys) (suc n) e = last_nth (y ∷ ys) n (omega arith)

  pub last_none : (l : List T) → length l ≡ 0 → last l ≡ None
  last_none [] e = refl
  last_none (x ∷ xs) e = absurd (omega arith)

  pub last_some : (l : List T) → 0 < length l → IsSome (last l)
  last_some [] h = absurd (omega arith)
  last_some (x ∷ []) h = refl
  last_some (x ∷ y ∷ ys) h = last_some (y ∷ ys) (omega arith)
