-- What calls take of the credit, and that the changes which it covers find room.
use Rattle.std.proofs.Common.{◌≡◌, ◌≢◌, ℕ, ◌+◌, ◌≤◌, Bool, true, false, List, [], ◌∷◌, ◌++◌, length, All, Some, sym, refl, ◌∙◌, arith}
use Rattle.std.proofs.lemmas.Bool.Decides.{nat_tests}
use Rattle.std.proofs.lemmas.List.{length_push}
use Rattle.std.proofs.lemmas.List.Elements.{All-nil, All-pop, All-push}
use Rattle.store.specs.Calls.{Slots, Answered, Spends, made_on, promised_after, unless}
use Rattle.store.specs.History.{fed}
use Rattle.store.specs.Meanings.{Meaning, credit}
use Rattle.store.specs.Questions.{change_refusal}
use Rattle.store.specs.Replays.{Runs, none, more}
use Rattle.store.specs.Replies.{Outcome, accepted, refused}
use Rattle.store.specs.Room.{FindsRoom, IsPlainChange}
use Rattle.store.specs.declared.calls.Call.{Call}
use Rattle.store.specs.declared.calls.Call.TheVariants.{Ask, Make, MakeUnder, Reserve, Close}
use Rattle.store.specs.declared.changes.Change.{Change}
use Rattle.store.specs.declared.changes.Change.TheVariants.{Push, Inject, Pop, Eject}

-- one call
module _ {T : Type 0} where
  handed_out : (vs : List (List T)) (c : Call T) (b : Bool) → length (fed vs c b) ≤ length vs + 1
  handed_out vs c false = omega arith
  handed_out vs (Ask q) true = omega arith
  handed_out vs (Make v d) true = grind (arith, length_push)
  handed_out vs (MakeUnder i v d) true = grind (arith, length_push)
  handed_out vs (Reserve i n) true = omega arith
  handed_out vs (Close i) true = omega arith

  -- it takes no more of the credit than the versions that it hands out
  spent : (m t : Meaning T) (c : Call T) (b : Bool) → Spends m c b t → t.versions ≡ fed m.versions c b → (credit m + length m.versions ≤ credit t + length t.versions) × (credit t ≤ credit m)
  spent m t c false spends e = grind arith
  spent m t (Ask q) true spends e = grind arith
  spent m t (Make v d) true spends e = grind (arith, length_push)
  spent m t (MakeUnder i v d) true spends e = grind (arith, length_push)
  spent m t (Reserve i n) true spends e = grind arith
  spent m t (Close i) true spends e = grind arith

  still_promised : (m : Meaning T) (p : Slots) (v : ℕ) (d : Change T) (b : Bool) → promised_after m p (Make v d) b ≡ m.promised
  still_promised m p v d false = refl
  still_promised m p v d true = refl

  not_for_room : (m : Meaning T) (v : ℕ) (d : Change T) (table : ℕ) → m.promised + 1 ≤ credit m → unless (change_refusal m v d) (made_on m v d) ≢ refused (6, table)
  not_for_room m v (Push x) table room e = grind (arith, nat_tests)
  not_for_room m v (Inject x) table room e = grind (arith, nat_tests)
  not_for_room m v Pop table room e = grind (arith, nat_tests)
  not_for_room m v Eject table room e = grind (arith, nat_tests)

  finds_room : (m t : Meaning T) (p q : Slots) (c : Call T) (a : Outcome T) → IsPlainChange c → m.promised + 1 ≤ credit m → Answered m p c t q a → FindsRoom a
  finds_room m t p q c a (v, d, e) room answered table f =
      let answer = rw e at answered.answer in
      not_for_room m v d table room (sym answer ∙ f)

-- any list of calls, on any kind of store
module _ {S T : Type 0} {meaning : S → Meaning T} {goes : S → ℕ → Change T → S → Type 0} {grows : S → S → Type 0} {s : S} {p : Slots} where
  runs_handed_out : {cs : List (Call T)} {bs : List (Outcome T)} {t : S} {q : Slots} → Runs meaning goes grows s p cs bs t q → length (meaning t).versions ≤ length (meaning s).versions + length cs
  runs_handed_out none = omega arith
  runs_handed_out (more {cs} {bs} {r} {o} {c} {a} {t} before answered carried) =
      let here : length (meaning t).versions ≤ length (meaning r).versions + 1 = rw answered.versions (handed_out (meaning r).versions c (accepted a)) in
      omega (arith, runs_handed_out before, length_push cs c)

  pub runs_spent : {cs : List (Call T)} {bs : List (Outcome T)} {t : S} {q : Slots} → Runs meaning goes grows s p cs bs t q → (credit (meaning s) + length (meaning s).versions ≤ credit (meaning t) + length (meaning t).versions) × (credit (meaning t) ≤ credit (meaning s))
  runs_spent none = (omega arith, omega arith)
  runs_spent (more {r} {c} {a} {t} before answered carried) =
      let earlier = runs_spent before in
      let last = spent (meaning r) (meaning t) c (accepted a) answered.credit answered.versions in
      (omega arith, omega arith)

  runs_still_promised : {cs : List (Call T)} {bs : List (Outcome T)} {t : S} {q : Slots} → Runs meaning goes grows s p cs bs t q → All IsPlainChange cs → (meaning t).promised ≡ (meaning s).promised
  runs_still_promised none plain = refl
  runs_still_promised (more {cs} {bs} {r} {o} {c} {a} before answered carried) plain =
      let parted = All-pop IsPlainChange (cs ++ c ∷ []) cs (Some c) refl plain in
      let (v, d, e) = parted.1 in
      let here = rw e at answered.promised in
      here ∙ (still_promised (meaning r) o v d (accepted a) ∙ runs_still_promised before parted.0)

  pub runs_sure : {cs : List (Call T)} {bs : List (Outcome T)} {t : S} {q : Slots} → Runs meaning goes grows s p cs bs t q → All IsPlainChange cs → (meaning s).promised + length cs ≤ credit (meaning s) → All FindsRoom bs
  runs_sure none plain few = All-nil FindsRoom
  runs_sure (more {cs} {bs} {r} {o} {c} {a} {t} {q} before answered carried) plain few =
      let parted = All-pop IsPlainChange (cs ++ c ∷ []) cs (Some c) refl plain in
      let room : (meaning r).promised + 1 ≤ credit (meaning r) = omega (arith, length_push cs c, runs_spent before, runs_handed_out before, runs_still_promised before parted.0) in
      All-push FindsRoom bs a (runs_sure before parted.0 (omega (arith, length_push cs c))) (finds_room (meaning r) (meaning t) o q c a parted.1 room answered)
