use Rattle.tl_ring.proofs.Names.{arith}
use Rattle.tl_ring.proofs.ring.Ring.len.Goals as goal

pub returns : goal.returns
returns g c =
    rw (← c.self.view_is) (record { count = c.len.ensures.len; most = omega (arith, c.len.ensures.within, c.self.invariant.1) })
