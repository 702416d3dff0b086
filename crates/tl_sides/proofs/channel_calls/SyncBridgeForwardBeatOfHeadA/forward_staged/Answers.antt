use Rattle.std.proofs.Common.{ap, ◌∙◌, refl}
use Rattle.tl_sides.proofs.Words.{rules_a}
use Rattle.tl_sides.specs.Joining.{bridge_of}
use Rattle.tl_sides.proofs.BridgeSteps.{with_a}
use Rattle.tl_sides.proofs.Bridging.{masked_a}
use Rattle.tl_sides.proofs.Layouts.{bridge_layout, part_small, inner_small}
use Rattle.tl_sides.proofs.Passing.{passes}
use Rattle.tl_sides.proofs.channel_calls.SyncBridgeForwardBeatOfHeadA.forward_staged.Goals as goal

pub forward_staged-requires : goal.forward_staged-requires
forward_staged-requires g c = (
  inner_small (bridge_layout g.row.C g.row.M g.row.A g.A.Allocator) 0 0 9223372036854775808 c.requires-raw.1.1.1,
  (
    part_small (bridge_layout g.row.C g.row.M g.row.A g.A.Allocator) 2 9223372036854775808 c.requires-raw.1.1.1,
    inner_small (bridge_layout g.row.C g.row.M g.row.A g.A.Allocator) 1 0 9223372036854775808 c.requires-raw.1.1.1,
  ),
)

pub returns : goal.returns
returns g c =
    let view = ap (λ q. bridge_of q.client q.manager q.a q.b q.c q.d q.e) c.self-inside.view_is ∙ c.self.view_is in
    rw (← view) (λ x h. with_a _ x h _ _ (passes rules_a masked_a _ _ c.forward_staged.ensures x.a h.a) (refl, refl))
