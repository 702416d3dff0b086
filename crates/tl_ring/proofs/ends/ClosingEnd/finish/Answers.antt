use Rattle.tl_ring.proofs.ends.ClosingEnd.finish.Goals as goal

pub returns : goal.returns
returns g c = rw (← c.self.view_is) c.finish.ensures
