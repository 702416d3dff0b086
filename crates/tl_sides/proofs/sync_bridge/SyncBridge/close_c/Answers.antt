use Rattle.std.proofs.Common.{ap, ◌∙◌}
use Rattle.tl_sides.proofs.Words.{rules_c}
use Rattle.tl_sides.proofs.BoxSteps.{closes_outbox}
use Rattle.tl_sides.proofs.Bridging.{as_bridge, bridge_closes_c}
use Rattle.tl_sides.proofs.Layouts.{bridge_layout, inner_small}
use Rattle.tl_sides.proofs.Lifting.{left_of}
use Rattle.tl_sides.proofs.sync_bridge.SyncBridge.close_c.Goals as goal

pub close-requires : goal.close-requires
close-requires g c = inner_small (bridge_layout g.row.C g.row.M g.row.A g.A.Allocator) 0 2 9223372036854775808 c.requires-raw.1.1.1

pub returns : goal.returns
returns g c = rw (← ap (λ q. as_bridge q) c.self-inside.view_is ∙ c.self.view_is)
    (bridge_closes_c (left_of c.self-inside.view_is) _ _ (closes_outbox rules_c g.row.C _ _ _ c.close.ensures))
