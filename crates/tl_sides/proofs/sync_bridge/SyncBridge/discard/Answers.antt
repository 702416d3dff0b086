use Rattle.tl_sides.proofs.Layouts.{bridge_layout, part_small}
use Rattle.tl_sides.proofs.sync_bridge.SyncBridge.discard.Goals as goal

-- each port is smaller than the bridge
pub discard-requires : goal.discard-requires
discard-requires g c = part_small (bridge_layout g.row.C g.row.M g.row.A g.A.Allocator) 0 9223372036854775808 c.requires-raw.1.1.1

pub discard-requires-2 : goal.discard-requires-2
discard-requires-2 g c = part_small (bridge_layout g.row.C g.row.M g.row.A g.A.Allocator) 1 9223372036854775808 c.requires-raw.1.1.1
