use Rattle.tl_ring.specs.Ends.{ArePair}
use Rattle.bridge_tests.proofs.ring.thread_tests.bring_the_rest.Given as goal

abbrev pub invariant-loop : goal.invariant-loop
invariant-loop l = ArePair l.send l.take
