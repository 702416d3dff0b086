use Rattle.tl_ring.specs.Ends.{SameTake}
use Rattle.bridge_tests.proofs.ring.thread_tests.take_all.Given as goal

abbrev pub invariant-loop : goal.invariant-loop
invariant-loop l = SameTake l.fn.take l.take
