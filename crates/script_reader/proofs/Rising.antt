-- The last of the goals before.
use Rattle.std.proofs.Common.{◌≡◌, ℕ, suc, ◌-◌, ◌≤◌, true, ltb, List, [], ◌∷◌, length, get_or, refl, ap, ◌∙◌, arith}
use Rattle.script.specs.Reading.{above}

pub above_none : (xs : List ℕ) (g : ℕ) → length xs ≡ 0 → true ≡ above xs g
above_none [] g h = refl
above_none (x ∷ xs) g h = absurd (omega arith)

pub above_last : (xs : List ℕ) (g : ℕ) → 1 ≤ length xs → ltb (get_or xs (length xs - 1) 0) g ≡ above xs g
above_last [] g h = absurd (omega arith)
above_last (x ∷ []) g h = refl
above_last (x ∷ y ∷ ys) g h =
    let down : length (x ∷ y ∷ ys) - 1 ≡ suc (length (y ∷ ys) - 1) = omega arith in
    ap (λ (i : ℕ). ltb (get_or (x ∷ y ∷ ys) i 0) g) down ∙ above_last (y ∷ ys) g (omega arith)
