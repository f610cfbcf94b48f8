use Rattle.std.proofs.Common.{◌≡◌, ◌++◌, take, string_bytes}
use Rattle.call_text.proofs.answering.write_items.Given as goal
use Rattle.call_text.specs.Reports.{item_fields}
use Rattle.store.specs.Meanings.{list_of_version}

abbrev pub invariant-loop-place : goal.invariant-loop-place
invariant-loop-place g l =
    string_bytes l.out ≡ string_bytes l.initial.out ++ item_fields (take l.place (list_of_version (g.S.DequeStore.meaning l.store) l.version))
