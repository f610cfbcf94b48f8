use Rattle.two_list.proofs.Linking.{Rebuilding}
use Rattle.two_list.proofs.rebuild.rebuild.Given as goal

abbrev pub invariant-loop : goal.invariant-loop
invariant-loop l = Rebuilding l.initial.cells l.cells l.fn.far l.stay l.counter l.at
