use Rattle.std.proofs.Common.{◌≡◌, ◌<◌}
use Rattle.two_list.specs.Chains.{behind}
use Rattle.two_list.proofs.lists.Lists.behind.Given as goal

abbrev pub invariant-loop : goal.invariant-loop
invariant-loop g l = (l.at ≡ behind l.self.cells.places.now l.cell l.counter) × (l.at < l.self.cells.filled)
