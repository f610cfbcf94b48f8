-- Acts: a field is read as a list of acts just where it is their text and each has a mark.
use Rattle.std.proofs.Common.{◌≡◌, ℕ, ◌*◌, Bool, true, false, cond, List, [], ◌∷◌, ◌++◌, length, Some, None, Option, sym, refl, ap, ◌∙◌, arith}
use Rattle.std.proofs.ByRecursion.{All-append}
use Rattle.std.proofs.lemmas.Bool.{and_parts, and_from}
use Rattle.std.proofs.lemmas.Bool.Decides.{nat_tests}
use Rattle.std.specs.List.{AllByRecursion as All, list_all}
use Rattle.script.specs.Fields.{act_by, act_of, before, acts}
use Rattle.script.specs.Soundness.{is_mark, mark_of}
use Rattle.script.specs.Texts.{act_text, acts_text}
use Rattle.script.specs.declared.rules.Act.{Act}
use Rattle.script.specs.declared.rules.Act.TheVariants.{Push, Inject, Pop, Eject}
use Rattle.script.proofs.Parting.{Above}

-- the act has a mark
abbrev pub marked : Act → Bool
marked a = is_mark (mark_of a)

-- the letter tells the act
act_by_is : (letter m : ℕ) (a : Act) → act_by letter m ≡ Some a → (letter ∷ m ∷ [] ≡ act_text a) × (mark_of a ≡ m)
act_by_is letter m (Push x) e = let l : letter ≡ 117 = grind (arith, nat_tests) in let k : x ≡ m = grind (arith, nat_tests) in (cc, k)
act_by_is letter m (Inject x) e = let l : letter ≡ 105 = grind (arith, nat_tests) in let k : x ≡ m = grind (arith, nat_tests) in (cc, k)
act_by_is letter m (Pop x) e = let l : letter ≡ 111 = grind (arith, nat_tests) in let k : x ≡ m = grind (arith, nat_tests) in (cc, k)
act_by_is letter m (Eject x) e = let l : letter ≡ 101 = grind (arith, nat_tests) in let k : x ≡ m = grind (arith, nat_tests) in (cc, k)

-- an act is read from its text, with a mark
act_of_is : (letter m : ℕ) (a : Act) → act_of letter m ≡ Some a → (letter ∷ m ∷ [] ≡ act_text a) × (marked a ≡ true)
act_of_is letter m a e = go (is_mark m) refl e
  where
    go : (b : Bool) → is_mark m ≡ b → cond b (act_by letter m) None ≡ Some a → (letter ∷ m ∷ [] ≡ act_text a) × (marked a ≡ true)
    go true h k = let p = act_by_is letter m a k in (p.0, ap is_mark p.1 ∙ h)
    go false h k = cc

-- one act before others is read where each is
before_is : (o : Option Act) (r : Option (List Act)) (all : List Act) → before o r ≡ Some all → (a : Act) × (rest : List Act) × (o ≡ Some a) × (r ≡ Some rest) × (all ≡ a ∷ rest)
before_is None r all e = cc
before_is (Some a) None all e = cc
before_is (Some a) (Some rest) all e = (a, rest, refl, refl, cc)

-- what is read as acts is their text
pub acts_is : (f : List ℕ) (all : List Act) → acts f ≡ Some all → (f ≡ acts_text all) × (list_all marked all ≡ true)
acts_is [] all e = let none : all ≡ [] = cc in (ap acts_text (sym none), ap (list_all marked) none)
acts_is (letter ∷ []) all e = cc
acts_is (letter ∷ m ∷ f) all e =
    let (a, rest, ea, er, is) = before_is (act_of letter m) (acts f) all e in
    let p = act_of_is letter m a ea in
    let q = acts_is f rest er in
    (ap {B = List ℕ} (λ z. z ++ f) p.0 ∙ (ap (λ z. act_text a ++ z) q.0 ∙ ap acts_text (sym is)), ap (list_all marked) is ∙ and_from (marked a) (list_all marked rest) p.1 q.1)

-- the text of acts with marks is read as those acts
pub acts_text_lem : (all : List Act) → list_all marked all ≡ true → acts (acts_text all) ≡ Some all
acts_text_lem [] h = refl
acts_text_lem (a ∷ rest) h =
    let p = and_parts (marked a) (list_all marked rest) h in
    one a p.0 (acts_text rest) ∙ ap (before (Some a)) (acts_text_lem rest p.1)
  where
    one : (x : Act) → marked x ≡ true → (f : List ℕ) → acts (act_text x ++ f) ≡ before (Some x) (acts f)
    one (Push m) k f = ap (λ b. before (cond b (Some (Push m)) None) (acts f)) k
    one (Inject m) k f = ap (λ b. before (cond b (Some (Inject m)) None) (acts f)) k
    one (Pop m) k f = ap (λ b. before (cond b (Some (Pop m)) None) (acts f)) k
    one (Eject m) k f = ap (λ b. before (cond b (Some (Eject m)) None) (acts f)) k

-- no mark is a separator
pub marks_plain : (ms : List ℕ) → list_all is_mark ms ≡ true → All Above ms
marks_plain [] h = tt
marks_plain (m ∷ ms) h = let p = and_parts (is_mark m) (list_all is_mark ms) h in (grind (arith, nat_tests), marks_plain ms p.1)

-- no byte of an act is a separator
pub acts_plain : (all : List Act) → list_all marked all ≡ true → All Above (acts_text all)
acts_plain [] h = tt
acts_plain (a ∷ rest) h =
    let p = and_parts (marked a) (list_all marked rest) h in
    All-append Above (act_text a) (acts_text rest) (one a p.0) (acts_plain rest p.1)
  where
    one : (x : Act) → marked x ≡ true → All Above (act_text x)
    one (Push m) k = (omega arith, (grind (arith, nat_tests), tt))
    one (Inject m) k = (omega arith, (grind (arith, nat_tests), tt))
    one (Pop m) k = (omega arith, (grind (arith, nat_tests), tt))
    one (Eject m) k = (omega arith, (grind (arith, nat_tests), tt))

-- two bytes for each act
pub length_acts : (all : List Act) → length (acts_text all) ≡ 2 * length all
length_acts [] = refl
length_acts (Push m ∷ rest) = let e = length_acts rest in omega arith
length_acts (Inject m ∷ rest) = let e = length_acts rest in omega arith
length_acts (Pop m ∷ rest) = let e = length_acts rest in omega arith
length_acts (Eject m ∷ rest) = let e = length_acts rest in omega arith
