use Rattle.tl_ring.proofs.ends.TakeEnd.drained.Goals as goal

pub returns : goal.returns
returns g c = rw (← c.self.view_is) c.is_drained.ensures
