use Rattle.std.proofs.Common.{ap, ◌∙◌, arith}
use Rattle.tl_sides.specs.Joining.{bridge_of}
use Rattle.tl_msg.specs.Tables.{rules_a, rules_b, rules_c, rules_d, rules_e}
use Rattle.tl_sides.proofs.Sums.{sum_2, sum_3, sum_4, sum_5}
use Rattle.tl_sides.proofs.BridgeSteps.{all_popped}
use Rattle.tl_sides.proofs.Bridging.{masked_a, masked_b, masked_c, masked_d, masked_e, fetched}
use Rattle.tl_sides.proofs.Layouts.{bridge_layout, part_small, inner_small}
use Rattle.tl_sides.proofs.sync_bridge.SyncBridge.fetch.Goals as goal

pub fetch-a-requires : goal.fetch-a-requires
fetch-a-requires g c = (
  part_small (bridge_layout g.row.C g.row.M g.row.A g.A.Allocator) 2 9223372036854775808 c.requires-raw.1.1.1,
  inner_small (bridge_layout g.row.C g.row.M g.row.A g.A.Allocator) 1 0 9223372036854775808 c.requires-raw.1.1.1,
)

pub fetch-b-requires : goal.fetch-b-requires
fetch-b-requires g c = (
  part_small (bridge_layout g.row.C g.row.M g.row.A g.A.Allocator) 3 9223372036854775808 c.requires-raw.1.1.1,
  inner_small (bridge_layout g.row.C g.row.M g.row.A g.A.Allocator) 0 1 9223372036854775808 c.requires-raw.1.1.1,
)

pub fetch-c-requires : goal.fetch-c-requires
fetch-c-requires g c = (
  part_small (bridge_layout g.row.C g.row.M g.row.A g.A.Allocator) 4 9223372036854775808 c.requires-raw.1.1.1,
  inner_small (bridge_layout g.row.C g.row.M g.row.A g.A.Allocator) 1 2 9223372036854775808 c.requires-raw.1.1.1,
)

pub fetch-d-requires : goal.fetch-d-requires
fetch-d-requires g c = (
  part_small (bridge_layout g.row.C g.row.M g.row.A g.A.Allocator) 5 9223372036854775808 c.requires-raw.1.1.1,
  inner_small (bridge_layout g.row.C g.row.M g.row.A g.A.Allocator) 0 3 9223372036854775808 c.requires-raw.1.1.1,
)

pub fetch-e-requires : goal.fetch-e-requires
fetch-e-requires g c = (
  part_small (bridge_layout g.row.C g.row.M g.row.A g.A.Allocator) 6 9223372036854775808 c.requires-raw.1.1.1,
  inner_small (bridge_layout g.row.C g.row.M g.row.A g.A.Allocator) 1 4 9223372036854775808 c.requires-raw.1.1.1,
)

pub overflow_add-result : goal.overflow_add-result
overflow_add-result g c = let few = sum_2 c.fetch-a.result c.fetch-b.result c.fetch-a.ensures.most c.fetch-b.ensures.most in omega (arith, few)

pub overflow_add-result-2 : goal.overflow_add-result-2
overflow_add-result-2 g c = let few = sum_3 c.fetch-a.result c.fetch-b.result c.fetch-c.result c.fetch-a.ensures.most c.fetch-b.ensures.most
    c.fetch-c.ensures.most in omega (arith, few)

pub overflow_add-result-3 : goal.overflow_add-result-3
overflow_add-result-3 g c = let few = sum_4 c.fetch-a.result c.fetch-b.result c.fetch-c.result c.fetch-d.result c.fetch-a.ensures.most
    c.fetch-b.ensures.most c.fetch-c.ensures.most c.fetch-d.ensures.most in omega (arith, few)

pub overflow_add-result-4 : goal.overflow_add-result-4
overflow_add-result-4 g c = let few = sum_5 c.fetch-a.result c.fetch-b.result c.fetch-c.result c.fetch-d.result c.fetch-e.result
    c.fetch-a.ensures.most c.fetch-b.ensures.most c.fetch-c.ensures.most c.fetch-d.ensures.most c.fetch-e.ensures.most in omega (arith, few)

pub returns : goal.returns
returns g c =
    let view = ap (λ q. bridge_of q.client q.manager q.a q.b q.c q.d q.e) c.self-inside.view_is ∙ c.self.view_is in
    all_popped view _ _ _ _ _ _ _ _ _ _
    (fetched rules_a masked_a g.row.C c.self-inside.inside.0.0.a c.self-inside.inside.0.1.1.0 c.self-inside.inside.0.1.0.a c.fetch-a.result
    c.fetch-a.ensures.count c.fetch-a.ensures.ring c.fetch-a.ensures.inbox c.fetch-a.ensures.most)
    (fetched rules_b masked_b g.row.M c.self-inside.inside.0.1.0.b c.self-inside.inside.0.1.1.1.0 c.self-inside.inside.0.0.b c.fetch-b.result
    c.fetch-b.ensures.count c.fetch-b.ensures.ring c.fetch-b.ensures.inbox c.fetch-b.ensures.most)
    (fetched rules_c masked_c g.row.C c.self-inside.inside.0.0.c c.self-inside.inside.0.1.1.1.1.0 c.self-inside.inside.0.1.0.c c.fetch-c.result
    c.fetch-c.ensures.count c.fetch-c.ensures.ring c.fetch-c.ensures.inbox c.fetch-c.ensures.most)
    (fetched rules_d masked_d g.row.M c.self-inside.inside.0.1.0.d c.self-inside.inside.0.1.1.1.1.1.0 c.self-inside.inside.0.0.d c.fetch-d.result
    c.fetch-d.ensures.count c.fetch-d.ensures.ring c.fetch-d.ensures.inbox c.fetch-d.ensures.most)
    (fetched rules_e masked_e g.row.C c.self-inside.inside.0.0.e c.self-inside.inside.0.1.1.1.1.1.1.0 c.self-inside.inside.0.1.0.e c.fetch-e.result
    c.fetch-e.ensures.count c.fetch-e.ensures.ring c.fetch-e.ensures.inbox c.fetch-e.ensures.most)
