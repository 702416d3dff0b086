use Rattle.tl_sides.specs.Sides.{AreSides}
use Rattle.bridge_tests.proofs.pair.side_tests.play_all.Given as goal

abbrev pub invariant-loop-call : goal.invariant-loop-call
invariant-loop-call l = AreSides l.client l.manager
