use Rattle.std.proofs.Common.{ap, ◌∙◌}
use Rattle.tl_sides.proofs.Bridging.{as_bridge, bridge_taken_d}
use Rattle.tl_sides.proofs.Layouts.{bridge_layout, inner_small, beat_small}
use Rattle.tl_sides.proofs.Lifting.{left_of}
use Rattle.tl_sides.proofs.sync_bridge.SyncBridge.take_d.Goals as goal

pub take_response-requires : goal.take_response-requires
take_response-requires g c = (
  inner_small (bridge_layout g.row.C g.row.M g.row.A g.A.Allocator) 0 5 9223372036854775808 c.requires-raw.1.1.1.0,
  (
    inner_small (bridge_layout g.row.C g.row.M g.row.A g.A.Allocator) 0 3 9223372036854775808 c.requires-raw.1.1.1.0,
    (beat_small g.row.C c.requires.far, c.requires.far),
  ),
)

pub returns : goal.returns
returns g c = rw (← ap (λ q. as_bridge q) c.self-inside.view_is ∙ c.self.view_is) (bridge_taken_d (left_of c.self-inside.view_is) _ _ c.take_response.ensures)
