use Rattle.tl_ring.proofs.FieldSizes.{beat_small}
use Rattle.tl_bridge.proofs.threads_run.lists_of.Goals as goal

-- the ends of both sides are dropped, and with each what may stand in its ring
pub drop-client-requires-2-room-P-Protocol-2 : goal.drop-client-requires-2-room-P-Protocol-2
drop-client-requires-2-room-P-Protocol-2 g c κs = search (beat_small g.row.M c.requires.manager)

pub drop-client-requires-3-room-P-Protocol-2 : goal.drop-client-requires-3-room-P-Protocol-2
drop-client-requires-3-room-P-Protocol-2 g c κs = search (beat_small g.row.C c.requires.client)

pub drop-client-requires-4-room-P-Protocol-2 : goal.drop-client-requires-4-room-P-Protocol-2
drop-client-requires-4-room-P-Protocol-2 g c κs = search (beat_small g.row.M c.requires.manager)

pub drop-client-requires-5-room-P-Protocol-2 : goal.drop-client-requires-5-room-P-Protocol-2
drop-client-requires-5-room-P-Protocol-2 g c κs = search (beat_small g.row.C c.requires.client)

pub drop-client-requires-6-room-P-Protocol-2 : goal.drop-client-requires-6-room-P-Protocol-2
drop-client-requires-6-room-P-Protocol-2 g c κs = search (beat_small g.row.M c.requires.manager)

pub drop-manager-requires-2-room-P-Protocol-2 : goal.drop-manager-requires-2-room-P-Protocol-2
drop-manager-requires-2-room-P-Protocol-2 g c κs = search (beat_small g.row.M c.requires.manager)

pub drop-manager-requires-3-room-P-Protocol-2 : goal.drop-manager-requires-3-room-P-Protocol-2
drop-manager-requires-3-room-P-Protocol-2 g c κs = search (beat_small g.row.C c.requires.client)

pub drop-manager-requires-4-room-P-Protocol-2 : goal.drop-manager-requires-4-room-P-Protocol-2
drop-manager-requires-4-room-P-Protocol-2 g c κs = search (beat_small g.row.M c.requires.manager)

pub drop-manager-requires-5-room-P-Protocol-2 : goal.drop-manager-requires-5-room-P-Protocol-2
drop-manager-requires-5-room-P-Protocol-2 g c κs = search (beat_small g.row.C c.requires.client)

pub drop-manager-requires-6-room-P-Protocol-2 : goal.drop-manager-requires-6-room-P-Protocol-2
drop-manager-requires-6-room-P-Protocol-2 g c κs = search (beat_small g.row.M c.requires.manager)
