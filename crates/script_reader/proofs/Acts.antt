-- The acts of a field, pair by pair, and how many they may be.
use Rattle.std.proofs.Common.{◌≡◌, ℕ, zero, suc, ◌*◌, ◌/◌, ◌%◌, ◌<◌, ◌≤◌, Bool, true, false, if◌then◌else◌, ◌&&◌, leb, List, [], ◌∷◌, length, is_some, is_ok, Some, None, Ok, Err, Option, Result, refl, ap, ◌∙◌, arith}
use Rattle.script.specs.Fields.{◌>>=◌, ◌>>◌, ask, act_of, acts, acts_in, before}
use Rattle.script.proofs.Letters.{acts_is, length_acts}
use Rattle.script.specs.declared.rules.Act.{Act}
use Rattle.script.specs.declared.refusals.Refusal.{Refusal}
use Rattle.script.specs.declared.refusals.Refusal.TheVariants.{Letters}
use Rattle.std.proofs.lemmas.Bool.{le-leb, lt-leb}
use Rattle.std.specs.List.{list_all, filter_map, cons_option}
use Rattle.std.specs.Option.{ok_or}
use Rattle.std.specs.Simd.{first_chunks}
use Rattle.script_reader.specs.Pairs.{act_of_pair}

-- the acts that the pairs are, where each is one
abbrev all_acts : List (List ℕ) → Option (List Act)
all_acts pairs = if list_all (λ p. is_some (act_of_pair p)) pairs then Some (filter_map act_of_pair pairs) else None

before_all : (o : Option Act) (b : Bool) (rest : List Act) → before o (if b then Some rest else None) ≡ (if is_some o && b then Some (cons_option o rest) else None)
before_all None b rest = refl
before_all (Some a) false rest = refl
before_all (Some a) true rest = refl

paired : (k : ℕ) (f : List ℕ) → length f ≡ k * 2 → acts f ≡ all_acts (first_chunks 2 k f)
paired zero [] e = refl
paired zero (l ∷ f) e = absurd (omega arith)
paired (suc k) [] e = absurd (omega arith)
paired (suc k) (l ∷ []) e = absurd (omega arith)
paired (suc k) (l ∷ m ∷ f) e = ap (before (act_of l m)) (paired k f (omega arith)) ∙ before_all (act_of l m) _ _

-- a field of an even length is read pair by pair
pub even : (f : List ℕ) → length f % 2 ≡ 0 → acts f ≡ all_acts (first_chunks 2 (length f / 2) f)
even f e = paired (length f / 2) f (omega arith)

before_none : (o : Option Act) → before o None ≡ None
before_none None = refl
before_none (Some a) = refl

-- one of an odd length is not acts
pub odd : (f : List ℕ) → 0 < length f % 2 → acts f ≡ None
odd [] h = absurd (omega arith)
odd (l ∷ []) h = refl
odd (l ∷ m ∷ f) h = ap (before (act_of l m)) (odd f (omega arith)) ∙ before_none (act_of l m)

-- two bytes for each act
sized : (f : List ℕ) (all : List Act) → acts f ≡ Some all → length f ≡ 2 * length all
sized f all e = ap length (acts_is f all e).0 ∙ length_acts all

abbrev few : ℕ → Option (List Act) → Result (List Act) Refusal
few n o = ok_or o (Letters n) >>= λ all. ask (leb (length all) 4) (Letters n) >> Ok all

few_long : (n : ℕ) (f : List ℕ) (o : Option (List Act)) → acts f ≡ o → 8 < length f → few n o ≡ Err (Letters n)
few_long n f None e long = refl
few_long n f (Some all) e long = rw (lt-leb (length all) 4 (omega (arith, sized f all e)))

few_short : (n : ℕ) (f : List ℕ) (o : Option (List Act)) → acts f ≡ o → length f ≤ 8 → few n o ≡ ok_or o (Letters n)
few_short n f None e short = refl
few_short n f (Some all) e short = rw (le-leb (length all) 4 (omega (arith, sized f all e)))

pub long : (n : ℕ) (f : List ℕ) → 8 < length f → acts_in n f ≡ Err (Letters n)
unfolding acts_in
long n f h = few_long n f (acts f) refl h

-- a field that is short enough is judged by its form alone
pub short : (n : ℕ) (f : List ℕ) → length f ≤ 8 → acts_in n f ≡ ok_or (acts f) (Letters n)
unfolding acts_in
short n f h = few_short n f (acts f) refl h

some_ok : (n : ℕ) (o : Option (List Act)) → is_some o ≡ true → is_ok (ok_or o (Letters n)) ≡ true
some_ok n None h = h
some_ok n (Some all) h = refl

pub short_some : (n : ℕ) (f : List ℕ) → length f ≤ 8 → is_some (acts f) ≡ true → is_ok (acts_in n f) ≡ true
short_some n f h some = ap is_ok (short n f h) ∙ some_ok n (acts f) some
