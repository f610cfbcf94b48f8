use Rattle.std.proofs.Common.{◌≡◌, ◌≤◌, length, take, vec_items, vec_len, vec_capacity}
use Rattle.store.proofs.replaying.replay.Given as goal
use Rattle.store.specs.Replays.{Runs}

abbrev pub invariant-loop-call : goal.invariant-loop-call
invariant-loop-call g l =
    record {
      every : vec_len l.answers ≡ l.call-index;
      room : length l.calls ≤ vec_capacity l.answers;
      same_store : l.replayer.store.ghost_name ≡ l.initial.replayer.store.ghost_name;
      same_slots : l.replayer.slots.ghost_name ≡ l.initial.replayer.slots.ghost_name;
      runs : Runs g.S.DequeStore.meaning g.S.DequeStore.goes g.S.DequeStore.grows l.initial.replayer.store.now l.initial.replayer.slots.now (take l.call-index l.calls) (vec_items l.answers) l.replayer.store.now l.replayer.slots.now;
    }
