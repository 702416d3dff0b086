use Rattle.tl_ring.proofs.FieldSizes.{beat_small}
use Rattle.speed.proofs.measure.measure_script.Goals as goal

pub new-given-requires-room-T-Default : goal.new-given-requires-room-T-Default
new-given-requires-room-T-Default g c κs = beat_small g.row.M c.requires.1

pub new-given-requires-else-is_empty-room-T-Default : goal.new-given-requires-else-is_empty-room-T-Default
new-given-requires-else-is_empty-room-T-Default g c κs = beat_small g.row.M c.requires.1
