use Rattle.std.proofs.Common.{ap, ◌∙◌}
use Rattle.tl_sides.proofs.Bridging.{as_bridge, bridge_offers_b}
use Rattle.tl_sides.proofs.Layouts.{bridge_layout, inner_small, beat_small}
use Rattle.tl_sides.proofs.Lifting.{left_of}
use Rattle.tl_sides.proofs.sync_bridge.SyncBridge.offer_b.Goals as goal

pub offer_alone-requires : goal.offer_alone-requires
offer_alone-requires g c = (
  inner_small (bridge_layout g.row.C g.row.M g.row.A g.A.Allocator) 1 1 9223372036854775808 c.requires-raw.1.1.1.0,
  (beat_small g.row.M c.requires.manager, (c.requires.manager, c.requires.client, rw (← ap (λ q. as_bridge q) c.self-inside.view_is ∙ c.self.view_is) at c.requires.ready)),
)

pub returns : goal.returns
returns g c =
    let view = ap (λ q. as_bridge q) c.self-inside.view_is ∙ c.self.view_is in
    rw (← view) (bridge_offers_b (left_of c.self-inside.view_is) _ _ _ (rw (← view) at c.requires.ready) c.offer_alone.ensures)
