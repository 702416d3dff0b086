use Rattle.tl_ring.proofs.Names.{ap, length, arith}
use Rattle.tl_ring.proofs.ring.write_queue.Goals as goal

pub as_slice-requires : goal.as_slice-requires
as_slice-requires g c = c.requires-raw.1.1

pub drop_front-requires : goal.drop_front-requires
drop_front-requires g c =
    (c.requires-raw.1.1, omega (arith, c.write_back-count.ensures.count, ap length c.as_slice.ensures.value))

pub returns : goal.returns
returns g c =
    record {
      count = rw c.as_slice.ensures.value at c.write_back-count.ensures.count;
      ring = rw c.as_slice.ensures.value at c.write_back-count.ensures.ring;
      queue = c.drop_front.ensures;
      most = omega (arith, c.write_back-count.ensures.count, c.as_slice.ensures.within);
    }
