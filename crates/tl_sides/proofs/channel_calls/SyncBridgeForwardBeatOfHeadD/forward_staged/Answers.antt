use Rattle.std.proofs.Common.{ap, ◌∙◌, refl}
use Rattle.tl_sides.proofs.Words.{rules_d}
use Rattle.tl_sides.specs.Joining.{bridge_of}
use Rattle.tl_sides.proofs.BridgeSteps.{with_d}
use Rattle.tl_sides.proofs.Bridging.{masked_d}
use Rattle.tl_sides.proofs.Layouts.{bridge_layout, part_small, inner_small}
use Rattle.tl_sides.proofs.Passing.{passes}
use Rattle.tl_sides.proofs.channel_calls.SyncBridgeForwardBeatOfHeadD.forward_staged.Goals as goal

pub forward_staged-requires : goal.forward_staged-requires
forward_staged-requires g c = (
  inner_small (bridge_layout g.row.C g.row.M g.row.A g.A.Allocator) 1 3 9223372036854775808 c.requires-raw.1.1.1,
  (
    part_small (bridge_layout g.row.C g.row.M g.row.A g.A.Allocator) 5 9223372036854775808 c.requires-raw.1.1.1,
    inner_small (bridge_layout g.row.C g.row.M g.row.A g.A.Allocator) 0 3 9223372036854775808 c.requires-raw.1.1.1,
  ),
)

pub returns : goal.returns
returns g c =
    let view = ap (λ q. bridge_of q.client q.manager q.a q.b q.c q.d q.e) c.self-inside.view_is ∙ c.self.view_is in
    rw (← view) (λ x h. with_d _ x h _ _ (passes rules_d masked_d _ _ c.forward_staged.ensures x.d h.d) (refl, refl, refl))
