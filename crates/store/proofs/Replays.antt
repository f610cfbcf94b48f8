-- What holds after any list of calls.
use Rattle.std.proofs.Common.{◌≡◌, ℕ, ◌+◌, ◌<◌, ◌≤◌, Bool, true, false, List, [], ◌∷◌, ◌++◌, map, length, get_or, take, refl, ap, ◌∙◌, arith}
use Rattle.std.proofs.lemmas.Bool.Decides.{nat_tests}
use Rattle.std.proofs.lemmas.List.{length_push, map_push, take_all, take_more}
use Rattle.store.proofs.Credit.{runs_spent, runs_sure}
use Rattle.store.proofs.Pledges.{accounted}
use Rattle.store.specs.Calls.{Slots, Answered, Carries, reply}
use Rattle.store.specs.History.{Fed, fed, grown, told, tellings}
use Rattle.store.specs.Kinds.{Chains}
use Rattle.store.specs.Meanings.{Meaning}
use Rattle.store.specs.Replays.{feeds, pledged, Runs, none, more, Replayed}
use Rattle.store.specs.Replies.{Outcome, reply_of, accepts, accepted, of_lists}
use Rattle.store.specs.declared.calls.Call.{Call}
use Rattle.store.specs.declared.calls.Call.TheVariants.{Ask, Make, MakeUnder, Reserve, Close}
use Rattle.store.specs.declared.calls.Question.TheVariants.{Longest, Number, Credit, Promised, Length, Item, Front, Back}
use Rattle.store.specs.declared.changes.Change.{Change}

-- one call more
module _ {T : Type 0} where
  grown_push : (vs : List (List T)) (fs : List (Fed T)) (f : Fed T) → grown vs (fs ++ f ∷ []) ≡ fed (grown vs fs) f.0 f.1
  grown_push vs [] f = refl
  grown_push vs (e ∷ fs) f = grown_push (fed vs e.0 e.1) fs f

  tellings_push : (vs : List (List T)) (fs : List (Fed T)) (f : Fed T) → tellings vs (fs ++ f ∷ []) ≡ tellings vs fs ++ told (grown vs fs) f.0 f.1 ∷ []
  tellings_push vs [] f = refl
  tellings_push vs (e ∷ fs) f = rw (tellings_push (fed vs e.0 e.1) fs f)

  feeds_push : (cs : List (Call T)) (bs : List (Outcome T)) (c : Call T) (b : Outcome T) → length bs ≡ length cs → feeds (cs ++ c ∷ []) (bs ++ b ∷ []) ≡ feeds cs bs ++ (c, accepted b) ∷ []
  feeds_push [] [] c b e = refl
  feeds_push [] (x ∷ bs) c b e = absurd (omega arith)
  feeds_push (y ∷ cs) [] c b e = absurd (omega arith)
  feeds_push (y ∷ cs) (x ∷ bs) c b e = rw (feeds_push cs bs c b (omega arith))

-- what is answered of lists is what the lists tell
module _ {T : Type 0} where
  reply_tells : (m : Meaning T) (p : Slots) (c : Call T) → of_lists (reply m p c) ≡ told m.versions c (accepts (reply m p c))
  reply_tells m p (Ask Longest) = refl
  reply_tells m p (Ask Number) = refl
  reply_tells m p (Ask Credit) = refl
  reply_tells m p (Ask Promised) = refl
  reply_tells m p (Ask (Length v)) = grind (arith, nat_tests)
  reply_tells m p (Ask (Item v place)) = grind (arith, nat_tests)
  reply_tells m p (Ask (Front v)) = grind (arith, nat_tests)
  reply_tells m p (Ask (Back v)) = grind (arith, nat_tests)
  reply_tells m p (Make v d) = grind (arith, nat_tests)
  reply_tells m p (MakeUnder i v d) = grind (arith, nat_tests)
  reply_tells m p (Reserve i n) = grind (arith, nat_tests)
  reply_tells m p (Close i) = grind (arith, nat_tests)

  answer_tells : (m : Meaning T) (p : Slots) (c : Call T) (a : Outcome T) → reply_of a ≡ reply m p c → of_lists (reply_of a) ≡ told m.versions c (accepted a)
  answer_tells m p c a e = rw e (reply_tells m p c)

-- any kind of store
module _ {S T : Type 0} (goes : S → ℕ → Change T → S → Type 0) (grows : S → S → Type 0) where
  carried_grows : Chains grows → (s : S) (c : Call T) (b : Bool) (t : S) → Carries goes grows s c b t → grows s t
  carried_grows chain s c false t h = rw h (chain.same s)
  carried_grows chain s (Ask q) true t h = rw h (chain.same s)
  carried_grows chain s (Make v d) true t h = h.1
  carried_grows chain s (MakeUnder i v d) true t h = h.1
  carried_grows chain s (Reserve i n) true t h = h.1
  carried_grows chain s (Close i) true t h = h.1

module _ {S T : Type 0} {meaning : S → Meaning T} {goes : S → ℕ → Change T → S → Type 0} {grows : S → S → Type 0} where
  module _ {s : S} {p : Slots} where
    runs_length : {cs : List (Call T)} {bs : List (Outcome T)} {t : S} {q : Slots} → Runs meaning goes grows s p cs bs t q → length bs ≡ length cs
    runs_length none = refl
    runs_length (more {cs} {bs} {r} {o} {c} {a} before answered carried) = omega (arith, runs_length before, length_push cs c, length_push bs a)

    runs_number : {cs : List (Call T)} {bs : List (Outcome T)} {t : S} {q : Slots} → Runs meaning goes grows s p cs bs t q → (meaning t).number ≡ (meaning s).number
    runs_number none = refl
    runs_number (more before answered carried) = answered.number ∙ runs_number before

    runs_longest : {cs : List (Call T)} {bs : List (Outcome T)} {t : S} {q : Slots} → Runs meaning goes grows s p cs bs t q → (meaning t).longest ≡ (meaning s).longest
    runs_longest none = refl
    runs_longest (more before answered carried) = answered.longest ∙ runs_longest before

    runs_versions : {cs : List (Call T)} {bs : List (Outcome T)} {t : S} {q : Slots} → Runs meaning goes grows s p cs bs t q → (meaning t).versions ≡ grown (meaning s).versions (feeds cs bs)
    runs_versions none = refl
    runs_versions (more {cs} {bs} {r} {o} {c} {a} before answered carried) =
        rw (feeds_push cs bs c a (runs_length before), grown_push, ← runs_versions before) answered.versions

    runs_told : {cs : List (Call T)} {bs : List (Outcome T)} {t : S} {q : Slots} → Runs meaning goes grows s p cs bs t q → map (λ b. of_lists (reply_of b)) bs ≡ tellings (meaning s).versions (feeds cs bs)
    runs_told none = refl
    runs_told (more {cs} {bs} {r} {o} {c} {a} before answered carried) =
        rw (map_push, feeds_push cs bs c a (runs_length before), tellings_push, runs_told before, ← runs_versions before, answer_tells (meaning r) o c a answered.answer)

    runs_promised : {cs : List (Call T)} {bs : List (Outcome T)} {t : S} {q : Slots} → Runs meaning goes grows s p cs bs t q → (meaning t).promised + pledged (meaning s).number p ≡ (meaning s).promised + pledged (meaning s).number q
    runs_promised none = refl
    runs_promised (more {cs} {bs} {r} {o} {c} {a} {t} {q} before answered carried) =
        let earlier = runs_promised before in
        let last : (meaning t).promised + pledged (meaning s).number o ≡ (meaning r).promised + pledged (meaning s).number q = rw (runs_number before) at (accounted (meaning r) o c (meaning t) q a answered) in
        omega arith

    runs_grow : Chains grows → {cs : List (Call T)} {bs : List (Outcome T)} {t : S} {q : Slots} → Runs meaning goes grows s p cs bs t q → grows s t
    runs_grow chain none = chain.same s
    runs_grow chain (more {cs} {bs} {r} {o} {c} {a} {t} before answered carried) =
        chain.joined s r t (runs_grow chain before) (carried_grows goes grows chain r c (accepted a) t carried)

    replayed : Chains grows → {cs : List (Call T)} {bs : List (Outcome T)} {t : S} {q : Slots} → Runs meaning goes grows s p cs bs t q → Replayed meaning goes grows s p cs bs t q
    replayed chain {cs} {bs} runs =
        record {
          runs = runs;
          every = runs_length runs;
          versions = runs_versions runs;
          fresh = λ e. runs_versions runs ∙ ap (λ vs. grown vs (feeds cs bs)) e;
          told = runs_told runs;
          promised = runs_promised runs;
          spent = (runs_spent runs).0;
          lower = (runs_spent runs).1;
          sure = runs_sure runs;
          longest = runs_longest runs;
          number = runs_number runs;
          kind = runs_grow chain runs;
        }

    -- the loop over the calls: no call yet, one call more, all calls
    pub start : (bs : List (Outcome T)) → bs ≡ [] → Runs meaning goes grows s p [] bs s p
    start bs e = rw e none

    pub next : (cs : List (Call T)) (i : ℕ) (c : Call T) (bs ds : List (Outcome T)) (a : Outcome T) {r t : S} {o q : Slots} → i < length cs → c ≡ get_or cs i c → ds ≡ bs ++ a ∷ [] → Runs meaning goes grows s p (take i cs) bs r o → Answered (meaning r) o c (meaning t) q a → Carries goes grows r c (accepted a) t → Runs meaning goes grows s p (take (i + 1) cs) ds t q
    next cs i c bs ds a l e f runs answered carried = rw (take_more cs i c l, ← e, f) (more runs answered carried)

    pub whole : Chains grows → (cs : List (Call T)) (i : ℕ) {bs : List (Outcome T)} {t : S} {q : Slots} → length cs ≤ i → Runs meaning goes grows s p (take i cs) bs t q → Replayed meaning goes grows s p cs bs t q
    whole chain cs i l runs = replayed chain (rw (take_all i cs l) at runs)
