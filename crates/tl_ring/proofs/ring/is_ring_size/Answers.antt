use Rattle.tl_ring.proofs.Names.{arith}
use Rattle.tl_ring.proofs.ring.is_ring_size.Goals as goal

pub returns-then-ring-ge1 : goal.returns-then-ring-ge1
returns-then-ring-ge1 c = grind arith
