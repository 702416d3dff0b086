use Rattle.std.proofs.Common.{◌≡◌, take, drop, length}
use Rattle.rtrb.specs.Ring.{received, known_items, SameConsumer}
use Rattle.tl_ring.specs.Halves.{Popped}
use Rattle.tl_ring.proofs.counting.pop_all.Given as goal

abbrev pub invariant-loop-i : goal.invariant-loop-i
invariant-loop-i g l = record {
  ring : SameConsumer l.fn.consumer l.consumer;
  popped : Popped g.P.Protocol.allows (received l.fn.consumer) (received l.consumer) (known_items l.fn.consumer) (known_items l.consumer)
      (take l.i l.slice) l.fn.clock.time l.clock.time;
  rest : drop l.i l.slice ≡ drop l.i l.fn.slice;
  length : length l.slice ≡ length l.fn.slice;
}
