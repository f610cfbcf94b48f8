-- Numbers: a field is read as a number below 1000 just where it is that number's decimal.
use Rattle.std.proofs.Common.{◌≡◌, ℕ, ◌+◌, ◌-◌, ◌*◌, ◌/◌, ◌%◌, ◌^◌, ◌<◌, ◌≤◌, not, ◌&&◌, eqb, ◌⊎◌, List, [], ◌∷◌, ◌++◌, Some, decimal, sym, ap, ◌∙◌, inl, inr, arith}
use Rattle.std.proofs.lemmas.Fmt.{decimal_digit, decimal_step, decimal_by_steps}
use Rattle.std.proofs.ByRecursion.{All-append}
use Rattle.std.proofs.lemmas.Bool.{cases_lt}
use Rattle.std.proofs.lemmas.Bool.Decides.{nat_tests}
use Rattle.std.specs.List.{AllByRecursion as All}
use Rattle.script.specs.Fields.{numeral, is_digit}
use Rattle.script.proofs.Outcomes.{cond_some}
use Rattle.script.proofs.Parting.{Above}

-- one digit more, by its byte
decimal_more : (n b : ℕ) → 0 < n → n < 100 → 48 ≤ b → b ≤ 57 → decimal (10 * n + (b - 48)) ≡ decimal n ++ b ∷ []
decimal_more n b some small low high =
    let v = 10 * n + (b - 48) in
    let front : v / 10 ≡ n = omega arith in
    let last : 48 + v % 10 ≡ b = omega arith in
    decimal_step v (omega arith) (omega arith) ∙ cc (front, last)

-- one, two and three digits, by their bytes
decimal_one : (a : ℕ) → 48 ≤ a → a ≤ 57 → decimal (a - 48) ≡ a ∷ []
decimal_one a low high =
    let e : 48 + (a - 48) ≡ a = omega arith in
    decimal_digit (a - 48) (omega arith) ∙ cc e

decimal_two : (a b : ℕ) → 48 < a → a ≤ 57 → 48 ≤ b → b ≤ 57 → decimal (10 * (a - 48) + (b - 48)) ≡ a ∷ b ∷ []
decimal_two a b some ha low high = decimal_more (a - 48) b (omega arith) (omega arith) low high ∙ ap (λ z. z ++ b ∷ []) (decimal_one a (omega arith) ha)

decimal_three :
    (a b c : ℕ) → 48 < a → a ≤ 57 → 48 ≤ b → b ≤ 57 → 48 ≤ c → c ≤ 57 →
    decimal (100 * (a - 48) + 10 * (b - 48) + (c - 48)) ≡ a ∷ b ∷ c ∷ []
decimal_three a b c some ha lb hb low high =
    let n = 10 * (a - 48) + (b - 48) in
    let e : 100 * (a - 48) + 10 * (b - 48) + (c - 48) ≡ 10 * n + (c - 48) = omega arith in
    ap decimal e ∙ (decimal_more n c (omega arith) (omega arith) low high ∙ ap (λ z. z ++ c ∷ []) (decimal_two a b some ha lb hb))

-- what is read as a number is its decimal
pub numeral_is : (f : List ℕ) (v : ℕ) → numeral f ≡ Some v → (f ≡ decimal v) × (v < 1000)
numeral_is [] v e = cc
numeral_is (a ∷ []) v e =
    let p = cond_some (is_digit a) (a - 48) v e in
    let low : 48 ≤ a = grind (arith, nat_tests) in
    let high : a ≤ 57 = grind (arith, nat_tests) in
    (sym (decimal_one a low high) ∙ ap decimal p.1, omega (arith, p.1))
numeral_is (a ∷ b ∷ []) v e =
    let p = cond_some (is_digit a && is_digit b && not (eqb a 48)) (10 * (a - 48) + (b - 48)) v e in
    let la : 48 < a = grind (arith, nat_tests) in
    let ha : a ≤ 57 = grind (arith, nat_tests) in
    let lb : 48 ≤ b = grind (arith, nat_tests) in
    let hb : b ≤ 57 = grind (arith, nat_tests) in
    (sym (decimal_two a b la ha lb hb) ∙ ap decimal p.1, omega (arith, p.1))
numeral_is (a ∷ b ∷ c ∷ []) v e =
    let p = cond_some (is_digit a && is_digit b && is_digit c && not (eqb a 48)) (100 * (a - 48) + 10 * (b - 48) + (c - 48)) v e in
    let la : 48 < a = grind (arith, nat_tests) in
    let ha : a ≤ 57 = grind (arith, nat_tests) in
    let lb : 48 ≤ b = grind (arith, nat_tests) in
    let hb : b ≤ 57 = grind (arith, nat_tests) in
    let lc : 48 ≤ c = grind (arith, nat_tests) in
    let hc : c ≤ 57 = grind (arith, nat_tests) in
    (sym (decimal_three a b c la ha lb hb lc hc) ∙ ap decimal p.1, omega (arith, p.1))
numeral_is (a ∷ b ∷ c ∷ d ∷ more) v e = cc

-- the decimal of a number below 1000 is read as that number
pub numeral_decimal : (v : ℕ) → v < 1000 → numeral (decimal v) ≡ Some v
numeral_decimal v h = go (cases_lt v 10) (cases_lt v 100)
  where
    at : (u : ℕ) (f : List ℕ) → u ≡ v → decimal u ≡ f → numeral f ≡ Some v → numeral (decimal v) ≡ Some v
    at u f e d n = cc (e, d, n)

    one : (a : ℕ) → 48 ≤ a → a ≤ 57 → a - 48 ≡ v → numeral (decimal v) ≡ Some v
    one a low high e = at (a - 48) (a ∷ []) e (decimal_one a low high) (grind (arith, nat_tests))

    two : (a b : ℕ) → 48 < a → a ≤ 57 → 48 ≤ b → b ≤ 57 → 10 * (a - 48) + (b - 48) ≡ v → numeral (decimal v) ≡ Some v
    two a b la ha lb hb e = at (10 * (a - 48) + (b - 48)) (a ∷ b ∷ []) e (decimal_two a b la ha lb hb) (grind (arith, nat_tests))

    three :
        (a b c : ℕ) → 48 < a → a ≤ 57 → 48 ≤ b → b ≤ 57 → 48 ≤ c → c ≤ 57 →
        100 * (a - 48) + 10 * (b - 48) + (c - 48) ≡ v → numeral (decimal v) ≡ Some v
    three a b c la ha lb hb lc hc e =
        at (100 * (a - 48) + 10 * (b - 48) + (c - 48)) (a ∷ b ∷ c ∷ []) e (decimal_three a b c la ha lb hb lc hc) (grind (arith, nat_tests))

    go : (v < 10) ⊎ (10 ≤ v) → (v < 100) ⊎ (100 ≤ v) → numeral (decimal v) ≡ Some v
    go (inl l) _ = one (48 + v) (omega arith) (omega arith) (omega arith)
    go (inr m) (inl l) = two (48 + v / 10) (48 + v % 10) (omega arith) (omega arith) (omega arith) (omega arith) (omega arith)
    go (inr m) (inr n) =
        three (48 + v / 100) (48 + v / 10 % 10) (48 + v % 10) (omega arith) (omega arith) (omega arith) (omega arith) (omega arith) (omega arith) (omega arith)

-- no digit is a separator
pub decimal_plain : (v : ℕ) → v < 2 ^ 64 → All Above (decimal v)
decimal_plain v h =
    decimal_by_steps (λ _ ds. All Above ds) (λ n small. (omega arith, tt)) (λ n ds large plain. All-append Above ds ((48 + n % 10) ∷ []) plain (omega arith, tt)) v h
