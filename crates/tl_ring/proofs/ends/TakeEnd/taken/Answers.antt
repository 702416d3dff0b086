use Rattle.tl_ring.proofs.ends.TakeEnd.taken.Goals as goal

pub returns : goal.returns
returns g c = rw (← c.self.view_is) c.taken_count.ensures
