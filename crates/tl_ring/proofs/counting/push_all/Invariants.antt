use Rattle.std.proofs.Common.{◌≡◌, ◌≤◌, ◌+◌, ◌++◌, take}
use Rattle.rtrb.specs.Ring.{sent, known_free, SameProducer}
use Rattle.tl_ring.specs.Halves.{all_stamped}
use Rattle.tl_ring.proofs.counting.push_all.Given as goal

abbrev pub invariant-loop-i : goal.invariant-loop-i
invariant-loop-i g l = record {
  ring : SameProducer l.fn.producer l.producer;
  sent : sent l.producer ≡ sent l.fn.producer ++ all_stamped l.clock.time (take l.i l.slice);
  known : known_free l.fn.producer ≤ known_free l.producer + l.i;
}
