-- One call that a replayer carries out: what it answers and what the kind promises of it.
-- The store and the slots stay the same places.
use Rattle.std.specs.Prelude.{◌≡◌, ℕ}
use Rattle.store.specs.Calls.{Answered, Carries}
use Rattle.store.specs.Meanings.{Meaning}
use Rattle.store.specs.Replies.{Outcome, accepted}
use Rattle.store.specs.declared.calls.Call.{Call}
use Rattle.store.specs.declared.changes.Change.{Change}
use Rattle.store.specs.declared.replayer.Replayer.{Replayer}

-- a kind of store, by its ghost members
module _ {S T : Type 0} (meaning : S → Meaning T) (goes : S → ℕ → Change T → S → Type 0) (grows : S → S → Type 0) where
  pub record Carried (p : Replayer S) (call : Call T) (q : Replayer S) (a : Outcome T) : Type 0 where
    pub answer : Answered (meaning p.store.now) p.slots.now call (meaning q.store.now) q.slots.now a
    pub kind : Carries goes grows p.store.now call (accepted a) q.store.now
    pub same_store : q.store.ghost_name ≡ p.store.ghost_name
    pub same_slots : q.slots.ghost_name ≡ p.slots.ghost_name
