use Rattle.tl_ring.proofs.Names.{refl, arith, length-drop}
use denote.Param.{layout, copied}
use Rattle.tl_ring.proofs.FieldSizes.{part_small}
use Rattle.tl_ring.specs.contracts.queue.Queue.{the_row}
use Rattle.tl_ring.proofs.queue.Queue.len.Goals as goal

pub len-requires : goal.len-requires
len-requires g c = part_small (layout (the_row (copied 0 g.row.T))) 0 9223372036854775808 c.requires-raw.1

pub overflow_sub-result : goal.overflow_sub-result
overflow_sub-result g c = omega (arith, c.len.ensures.value, c.self.invariant)

pub returns : goal.returns
returns g c =
    record {
      value = rw (← c.self.view_is, length-drop, c.len.ensures.value) refl;
      within = omega (arith, c.len.ensures.fits);
    }
