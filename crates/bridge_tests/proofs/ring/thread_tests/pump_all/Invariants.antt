use Rattle.tl_ring.specs.Ends.{SameSend}
use Rattle.bridge_tests.proofs.ring.thread_tests.pump_all.Given as goal

abbrev pub invariant-loop : goal.invariant-loop
invariant-loop l = SameSend l.fn.closing l.closing
