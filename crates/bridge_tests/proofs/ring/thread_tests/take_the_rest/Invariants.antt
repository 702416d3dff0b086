use Rattle.tl_ring.specs.Ends.{IsReceiptOf}
use Rattle.bridge_tests.proofs.ring.thread_tests.take_the_rest.Given as goal

abbrev pub invariant-loop : goal.invariant-loop
invariant-loop l = IsReceiptOf l.receipt l.take
