use Rattle.tl_ring.proofs.Names.{arith}
use Rattle.tl_ring.proofs.queue.cut_front.Goals as goal

pub len-requires : goal.len-requires
len-requires g c = c.requires-raw.1.0

pub overflow_sub-left : goal.overflow_sub-left
overflow_sub-left g c = rw c.len.ensures.value c.requires

pub as_mut_slice-requires : goal.as_mut_slice-requires
as_mut_slice-requires g c = c.requires-raw.1.0

pub copy_within-requires-clause-start_le_end : goal.copy_within-requires-clause-start_le_end
copy_within-requires-clause-start_le_end g c = rw c.as_mut_slice.ensures.value c.requires

pub copy_within-requires-clause-in_bounds : goal.copy_within-requires-clause-in_bounds
copy_within-requires-clause-in_bounds g c = omega arith

pub copy_within-requires-clause-not_exhausted : goal.copy_within-requires-clause-not_exhausted
copy_within-requires-clause-not_exhausted g c = tt

pub truncate-requires : goal.truncate-requires
truncate-requires g c = c.requires-raw.1.0

pub copy_within-requires-clause-dest_in_bounds : goal.copy_within-requires-clause-dest_in_bounds
copy_within-requires-clause-dest_in_bounds g c = omega arith
