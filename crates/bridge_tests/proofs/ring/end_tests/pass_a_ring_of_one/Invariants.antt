use Rattle.tl_ring.specs.Ends.{ArePair}
use Rattle.bridge_tests.proofs.ring.end_tests.pass_a_ring_of_one.Given as goal

abbrev pub invariant-loop-pumps : goal.invariant-loop-pumps
invariant-loop-pumps l = ArePair l.send l.take
