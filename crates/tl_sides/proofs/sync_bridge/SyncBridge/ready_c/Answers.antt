use Rattle.std.proofs.Common.{ap, ◌∙◌}
use Rattle.tl_sides.proofs.Bridging.{as_bridge}
use Rattle.tl_sides.proofs.Layouts.{bridge_layout, inner_small}
use Rattle.tl_sides.proofs.sync_bridge.SyncBridge.ready_c.Goals as goal

pub ready-requires : goal.ready-requires
ready-requires g c = inner_small (bridge_layout g.row.C g.row.M g.row.A g.A.Allocator) 0 2 9223372036854775808 c.requires-raw.1.1.1

pub returns : goal.returns
returns g c = rw (← ap (λ q. as_bridge q) c.self-inside.view_is ∙ c.self.view_is) c.ready.ensures
