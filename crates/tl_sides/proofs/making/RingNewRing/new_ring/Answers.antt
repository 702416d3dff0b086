use Rattle.tl_sides.proofs.making.RingNewRing.new_ring.Goals as goal

pub new-requires : goal.new-requires
new-requires g c = c.requires-raw.1.1.1.1

pub returns : goal.returns
returns g c = let said = c.new.ensures in record { new = said.new; size = said.size; ring_size = said.ring_size }
