-- Fields: what each kind of field is where it is read, and that it is read where it is that.
use Rattle.std.proofs.Common.{◌≡◌, ℕ, ◌<◌, Bool, true, ◌&&◌, ltb, leb, List, length, Ok, decimal, Result, sym, ap, ◌∙◌, subst}
use Rattle.std.specs.List.{list_all}
use Rattle.std.specs.Option.{ok_or}
use Rattle.script.specs.Fields.{◌>>=◌, ◌>>◌, ask, numeral, numeral_in, number_in, state_in, marks_in, acts, acts_in}
use Rattle.script.specs.Soundness.{within, is_mark}
use Rattle.script.specs.Texts.{acts_text}
use Rattle.script.specs.declared.rules.Act.{Act}
use Rattle.script.specs.declared.refusals.Refusal.{Refusal}
use Rattle.script.specs.declared.refusals.Refusal.TheVariants.{Range, Letters}
use Rattle.script.proofs.Letters.{marked, acts_is, acts_text_lem}
use Rattle.script.proofs.Numbers.{numeral_is, numeral_decimal}
use Rattle.script.proofs.Outcomes.{bind_is, ask_is, ok_or_is}

module _ (n : ℕ) (p : ℕ → Bool) where
  -- a number that is asked for more
  abbrev asked : List ℕ → Result ℕ Refusal
  asked f = numeral_in n f >>= λ v. ask (p v) (Range n) >> Ok v

  asked_is : (f : List ℕ) (v : ℕ) → asked f ≡ Ok v → (f ≡ decimal v) × (p v ≡ true)
  unfolding numeral_in
  asked_is f v e =
      let (x, is, rest) = bind_is (numeral_in n f) _ v e in
      let (fits, same) = ask_is (p x) (Range n) (Ok x) v rest in
      let xv : x ≡ v = cc in
      ((numeral_is f x (ok_or_is (numeral f) _ x is)).0 ∙ ap decimal xv, ap p (sym xv) ∙ fits)

  asked_decimal : (v : ℕ) → v < 1000 → p v ≡ true → asked (decimal v) ≡ Ok v
  unfolding numeral_in
  asked_decimal v small fits = rw (numeral_decimal v small, fits)

-- a number in its range
pub number_is : (n low high : ℕ) (f : List ℕ) (v : ℕ) → number_in n low high f ≡ Ok v → (f ≡ decimal v) × (within low high v ≡ true)
unfolding number_in
number_is n low high = asked_is n (within low high)

pub number_decimal : (n low high v : ℕ) → v < 1000 → within low high v ≡ true → number_in n low high (decimal v) ≡ Ok v
unfolding number_in
number_decimal n low high = asked_decimal n (within low high)

-- a state
pub state_is : (n states : ℕ) (f : List ℕ) (v : ℕ) → state_in n states f ≡ Ok v → (f ≡ decimal v) × (ltb v states ≡ true)
unfolding state_in
state_is n states = asked_is n (λ v. ltb v states)

pub state_decimal : (n states v : ℕ) → v < 1000 → ltb v states ≡ true → state_in n states (decimal v) ≡ Ok v
unfolding state_in
state_decimal n states = asked_decimal n (λ v. ltb v states)

-- marks, which are their own text
pub marks_is : (n most : ℕ) (f ms : List ℕ) → marks_in n most f ≡ Ok ms → (f ≡ ms) × ((list_all is_mark ms && leb (length ms) most) ≡ true)
unfolding marks_in
marks_is n most f ms e =
    let (fits, same) = ask_is (list_all is_mark f && leb (length f) most) (Letters n) (Ok f) ms e in
    let is : f ≡ ms = cc in
    (is, ap (λ z. list_all is_mark z && leb (length z) most) (sym is) ∙ fits)

pub marks_themselves : (n most : ℕ) (ms : List ℕ) → (list_all is_mark ms && leb (length ms) most) ≡ true → marks_in n most ms ≡ Ok ms
unfolding marks_in
marks_themselves n most ms fits = rw fits

-- acts
pub acts_in_is : (n : ℕ) (f : List ℕ) (all : List Act) → acts_in n f ≡ Ok all → (f ≡ acts_text all) × (list_all marked all ≡ true) × (leb (length all) 4 ≡ true)
unfolding acts_in
acts_in_is n f all e =
    let (x, is, rest) = bind_is (ok_or (acts f) (Letters n)) _ all e in
    let (fits, same) = ask_is (leb (length x) 4) (Letters n) (Ok x) all rest in
    let xa : x ≡ all = cc in
    let (text, marks) = acts_is f x (ok_or_is (acts f) _ x is) in
    subst (λ z. (f ≡ acts_text z) × (list_all marked z ≡ true) × (leb (length z) 4 ≡ true)) xa (text, marks, fits)

pub acts_in_text : (n : ℕ) (all : List Act) → list_all marked all ≡ true → leb (length all) 4 ≡ true → acts_in n (acts_text all) ≡ Ok all
unfolding acts_in
acts_in_text n all marks fits = rw (acts_text_lem all marks, fits)
