use Rattle.tl_ring.proofs.Same.{receipt_of}
use Rattle.bridge_tests.proofs.ring.thread_tests.a_receipt_goes_from_thread_to_thread.Goals as goal

pub take_the_rest-is_so-requires : goal.take_the_rest-is_so-requires
take_the_rest-is_so-requires g c =
    let pair = rw c.expect-send.ensures at c.ring_pair-ends.ensures.pair in
    let left = rw c.expect-receipt.ensures at c.join-receipt.ensures.first in
    receipt_of c.expect-send.result.0 c.expect-receipt.result c.expect-send.result.1 c.join-receipt.result.1.0 left pair
    c.join-receipt.ensures.second
