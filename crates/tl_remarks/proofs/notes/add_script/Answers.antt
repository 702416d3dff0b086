use Rattle.tl_ring.proofs.FieldSizes.{beat_small}
use Rattle.tl_remarks.proofs.notes.add_script.Goals as goal

pub add_channel-requires : goal.add_channel-requires
add_channel-requires g c = beat_small g.row.C c.requires.0

pub add_channel-requires-2 : goal.add_channel-requires-2
add_channel-requires-2 g c = beat_small g.row.M c.requires.1

pub add_channel-requires-3 : goal.add_channel-requires-3
add_channel-requires-3 g c = beat_small g.row.C c.requires.0

pub add_channel-requires-4 : goal.add_channel-requires-4
add_channel-requires-4 g c = beat_small g.row.M c.requires.1

pub add_channel-requires-5 : goal.add_channel-requires-5
add_channel-requires-5 g c = beat_small g.row.C c.requires.0
