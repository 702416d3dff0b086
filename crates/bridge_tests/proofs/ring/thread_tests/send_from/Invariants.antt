use Rattle.tl_ring.specs.Ends.{SameSend}
use Rattle.bridge_tests.proofs.ring.thread_tests.send_from.Given as goal

abbrev pub invariant-loop : goal.invariant-loop
invariant-loop l = SameSend l.fn.send l.send
