-- Any list of calls on a store, one after the other, and what holds of the store after them.
use Rattle.std.specs.Prelude.{◌≡◌, ℕ, ◌+◌, ◌≤◌, cond, List, [], ◌∷◌, ◌++◌, map, length, Some, None, All, Option, ◌==◌}
use Rattle.store.specs.Calls.{Slots, Answered, Carries}
use Rattle.store.specs.History.{Fed, grown, history, tellings}
use Rattle.store.specs.Meanings.{Meaning, credit}
use Rattle.store.specs.Replies.{Outcome, accepted, of_lists, reply_of}
use Rattle.store.specs.Room.{FindsRoom, IsPlainChange}
use Rattle.store.specs.declared.calls.Call.{Call}
use Rattle.store.specs.declared.reservations.Held.{Held}
use Rattle.store.specs.declared.changes.Change.{Change}

-- what is fed to the history: each call, and whether its answer accepts it
abbrev pub feeds : {T : Type 0} → List (Call T) → List (Outcome T) → List (Fed T)
feeds [] answers = []
feeds (c ∷ cs) [] = []
feeds (c ∷ cs) (a ∷ bs) = (c, accepted a) ∷ feeds cs bs

-- what the reservation in a slot has left for the store of a number
abbrev pub left_for : ℕ → Option Held → ℕ
left_for number None = 0
left_for number (Some h) = cond (h.number == number) h.left 0

-- what all slots have left for it
abbrev pub pledged : ℕ → Slots → ℕ
pledged number [] = 0
pledged number (h ∷ hs) = left_for number h + pledged number hs

-- a kind of store, by its ghost members
module _ {S T : Type 0} (meaning : S → Meaning T) (goes : S → ℕ → Change T → S → Type 0) (grows : S → S → Type 0) where
  -- calls with their answers, from store s and slots p
  pub data Runs (s : S) (p : Slots) : List (Call T) → List (Outcome T) → S → Slots → Type 0 where
    none : Runs s p [] [] s p
    more : {cs : List (Call T)} {bs : List (Outcome T)} {r : S} {o : Slots} {c : Call T} {a : Outcome T} {t : S} {q : Slots} → Runs s p cs bs r o → Answered (meaning r) o c (meaning t) q a → Carries goes grows r c (accepted a) t → Runs s p (cs ++ c ∷ []) (bs ++ a ∷ []) t q

  pub record Replayed (s : S) (p : Slots) (cs : List (Call T)) (bs : List (Outcome T)) (t : S) (q : Slots) : Type 0 where
    pub runs : Runs s p cs bs t q
    -- an answer to each call
    pub every : length bs ≡ length cs
    -- the versions are the history of what was fed, from where the store stood
    pub versions : (meaning t).versions ≡ grown (meaning s).versions (feeds cs bs)
    pub fresh : (meaning s).versions ≡ [] ∷ [] → (meaning t).versions ≡ history (feeds cs bs)
    -- accepted changes, lengths, items at places and ends are answered as the history tells
    pub told : map (λ b. of_lists (reply_of b)) bs ≡ tellings (meaning s).versions (feeds cs bs)
    -- promised goes up and down with what the open reservations have left
    pub promised : (meaning t).promised + pledged (meaning s).number p ≡ (meaning s).promised + pledged (meaning s).number q
    -- the credit falls by no more than one for each version handed out, and never rises
    pub spent : credit (meaning s) + length (meaning s).versions ≤ credit (meaning t) + length (meaning t).versions
    pub lower : credit (meaning t) ≤ credit (meaning s)
    -- and changes that are no more than the credit over what is promised all find room
    pub sure : All IsPlainChange cs → (meaning s).promised + length cs ≤ credit (meaning s) → All FindsRoom bs
    pub longest : (meaning t).longest ≡ (meaning s).longest
    pub number : (meaning t).number ≡ (meaning s).number
    -- what the kind promises of every call
    pub kind : grows s t
