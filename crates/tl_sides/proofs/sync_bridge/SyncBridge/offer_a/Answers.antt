use Rattle.std.proofs.Common.{ap, ◌∙◌}
use Rattle.tl_sides.proofs.Bridging.{as_bridge, bridge_offers_a}
use Rattle.tl_sides.proofs.Layouts.{bridge_layout, inner_small, beat_small}
use Rattle.tl_sides.proofs.Lifting.{left_of}
use Rattle.tl_sides.proofs.sync_bridge.SyncBridge.offer_a.Goals as goal

-- The client's outbox of A, and its book, are parts of the bridge.
-- (A must-fail edit, which calls the manager's book too, puts its answer in the place of these lines.)
pub offer_request-requires : goal.offer_request-requires
offer_request-requires g c = (
  inner_small (bridge_layout g.row.C g.row.M g.row.A g.A.Allocator) 0 5 9223372036854775808 c.requires-raw.1.1.1.0,
  (
    inner_small (bridge_layout g.row.C g.row.M g.row.A g.A.Allocator) 0 0 9223372036854775808 c.requires-raw.1.1.1.0,
    (beat_small g.row.C c.requires.client, (c.requires.client, c.requires.manager, rw (← ap (λ q. as_bridge q) c.self-inside.view_is ∙ c.self.view_is) at c.requires.ready)),
  ),
)

pub returns : goal.returns
returns g c =
    let view = ap (λ q. as_bridge q) c.self-inside.view_is ∙ c.self.view_is in
    rw (← view) (bridge_offers_a (left_of c.self-inside.view_is) _ _ _ (rw (← view) at c.requires.ready) c.offer_request.ensures)
