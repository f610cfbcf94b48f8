use Rattle.std.proofs.Common.{arith}
use Rattle.store.proofs.Asking.{short_named}
use Rattle.store.proofs.deque_store.DequeStore.promised_with.Goals as goal

pub unwrap-requires : goal.unwrap-requires
unwrap-requires g c =
    let s = g.Self.DequeStore.sound c.args.self.now in
    short_named _ _ _ s.tables (omega arith) c.short_table.ensures
