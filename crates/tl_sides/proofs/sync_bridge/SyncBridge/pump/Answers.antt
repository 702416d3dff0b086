use Rattle.std.proofs.Common.{ap, ◌∙◌, arith}
use Rattle.tl_sides.specs.Joining.{bridge_of}
use Rattle.tl_msg.specs.Tables.{rules_a, rules_b, rules_c, rules_d, rules_e}
use Rattle.tl_sides.proofs.Sums.{sum_2, sum_3, sum_4, sum_5}
use Rattle.tl_sides.proofs.BridgeSteps.{all_pushed}
use Rattle.tl_sides.proofs.Bridging.{masked_a, masked_b, masked_c, masked_d, masked_e, pumped}
use Rattle.tl_sides.proofs.Layouts.{bridge_layout, part_small, inner_small}
use Rattle.tl_sides.proofs.sync_bridge.SyncBridge.pump.Goals as goal

pub pump-a-requires : goal.pump-a-requires
pump-a-requires g c = (
  inner_small (bridge_layout g.row.C g.row.M g.row.A g.A.Allocator) 0 0 9223372036854775808 c.requires-raw.1.1.1,
  part_small (bridge_layout g.row.C g.row.M g.row.A g.A.Allocator) 2 9223372036854775808 c.requires-raw.1.1.1,
)

pub pump-b-requires : goal.pump-b-requires
pump-b-requires g c = (
  inner_small (bridge_layout g.row.C g.row.M g.row.A g.A.Allocator) 1 1 9223372036854775808 c.requires-raw.1.1.1,
  part_small (bridge_layout g.row.C g.row.M g.row.A g.A.Allocator) 3 9223372036854775808 c.requires-raw.1.1.1,
)

pub pump-c-requires : goal.pump-c-requires
pump-c-requires g c = (
  inner_small (bridge_layout g.row.C g.row.M g.row.A g.A.Allocator) 0 2 9223372036854775808 c.requires-raw.1.1.1,
  part_small (bridge_layout g.row.C g.row.M g.row.A g.A.Allocator) 4 9223372036854775808 c.requires-raw.1.1.1,
)

pub pump-d-requires : goal.pump-d-requires
pump-d-requires g c = (
  inner_small (bridge_layout g.row.C g.row.M g.row.A g.A.Allocator) 1 3 9223372036854775808 c.requires-raw.1.1.1,
  part_small (bridge_layout g.row.C g.row.M g.row.A g.A.Allocator) 5 9223372036854775808 c.requires-raw.1.1.1,
)

pub pump-e-requires : goal.pump-e-requires
pump-e-requires g c = (
  inner_small (bridge_layout g.row.C g.row.M g.row.A g.A.Allocator) 0 4 9223372036854775808 c.requires-raw.1.1.1,
  part_small (bridge_layout g.row.C g.row.M g.row.A g.A.Allocator) 6 9223372036854775808 c.requires-raw.1.1.1,
)

pub overflow_add-result : goal.overflow_add-result
overflow_add-result g c = let few = sum_2 c.pump-a.result c.pump-b.result c.pump-a.ensures.most c.pump-b.ensures.most in omega (arith, few)

pub overflow_add-result-2 : goal.overflow_add-result-2
overflow_add-result-2 g c = let few = sum_3 c.pump-a.result c.pump-b.result c.pump-c.result c.pump-a.ensures.most c.pump-b.ensures.most
    c.pump-c.ensures.most in omega (arith, few)

pub overflow_add-result-3 : goal.overflow_add-result-3
overflow_add-result-3 g c = let few = sum_4 c.pump-a.result c.pump-b.result c.pump-c.result c.pump-d.result c.pump-a.ensures.most
    c.pump-b.ensures.most c.pump-c.ensures.most c.pump-d.ensures.most in omega (arith, few)

pub overflow_add-result-4 : goal.overflow_add-result-4
overflow_add-result-4 g c = let few = sum_5 c.pump-a.result c.pump-b.result c.pump-c.result c.pump-d.result c.pump-e.result c.pump-a.ensures.most
    c.pump-b.ensures.most c.pump-c.ensures.most c.pump-d.ensures.most c.pump-e.ensures.most in omega (arith, few)

pub returns : goal.returns
returns g c =
    let view = ap (λ q. bridge_of q.client q.manager q.a q.b q.c q.d q.e) c.self-inside.view_is ∙ c.self.view_is in
    all_pushed view _ _ _ _ _ _ _ _ _ _
    (pumped rules_a masked_a g.row.C c.self-inside.inside.0.0.a c.self-inside.inside.0.1.1.0 c.self-inside.inside.0.1.0.a c.pump-a.result
    c.pump-a.ensures.count c.pump-a.ensures.outbox c.pump-a.ensures.ring c.pump-a.ensures.most)
    (pumped rules_b masked_b g.row.M c.self-inside.inside.0.1.0.b c.self-inside.inside.0.1.1.1.0 c.self-inside.inside.0.0.b c.pump-b.result
    c.pump-b.ensures.count c.pump-b.ensures.outbox c.pump-b.ensures.ring c.pump-b.ensures.most)
    (pumped rules_c masked_c g.row.C c.self-inside.inside.0.0.c c.self-inside.inside.0.1.1.1.1.0 c.self-inside.inside.0.1.0.c c.pump-c.result
    c.pump-c.ensures.count c.pump-c.ensures.outbox c.pump-c.ensures.ring c.pump-c.ensures.most)
    (pumped rules_d masked_d g.row.M c.self-inside.inside.0.1.0.d c.self-inside.inside.0.1.1.1.1.1.0 c.self-inside.inside.0.0.d c.pump-d.result
    c.pump-d.ensures.count c.pump-d.ensures.outbox c.pump-d.ensures.ring c.pump-d.ensures.most)
    (pumped rules_e masked_e g.row.C c.self-inside.inside.0.0.e c.self-inside.inside.0.1.1.1.1.1.1.0 c.self-inside.inside.0.1.0.e c.pump-e.result
    c.pump-e.ensures.count c.pump-e.ensures.outbox c.pump-e.ensures.ring c.pump-e.ensures.most)
