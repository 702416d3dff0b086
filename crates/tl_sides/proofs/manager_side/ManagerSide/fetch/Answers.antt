use Rattle.std.proofs.Common.{ap, ◌∙◌, arith}
use Rattle.tl_sides.proofs.Layouts.{manager_side_layout, part_small, inner_small}
use Rattle.tl_sides.proofs.SideSteps.{manager_side_of, manager_fetched}
use Rattle.tl_sides.proofs.manager_side.ManagerSide.fetch.Goals as goal

pub receive-a-requires : goal.receive-a-requires
receive-a-requires g c = (
  search (part_small (manager_side_layout g.row.C g.row.M g.row.A g.A.Allocator) 1 9223372036854775808),
  search (inner_small (manager_side_layout g.row.C g.row.M g.row.A g.A.Allocator) 0 0 9223372036854775808),
)

pub receive-c-requires : goal.receive-c-requires
receive-c-requires g c = (
  search (part_small (manager_side_layout g.row.C g.row.M g.row.A g.A.Allocator) 3 9223372036854775808),
  search (inner_small (manager_side_layout g.row.C g.row.M g.row.A g.A.Allocator) 0 2 9223372036854775808),
)

pub receive-e-requires : goal.receive-e-requires
receive-e-requires g c = (
  search (part_small (manager_side_layout g.row.C g.row.M g.row.A g.A.Allocator) 5 9223372036854775808),
  search (inner_small (manager_side_layout g.row.C g.row.M g.row.A g.A.Allocator) 0 4 9223372036854775808),
)

pub overflow_add-result : goal.overflow_add-result
overflow_add-result g c = omega (arith, c.receive-a.ensures.most, c.receive-c.ensures.most)

pub overflow_add-result-2 : goal.overflow_add-result-2
overflow_add-result-2 g c = omega (arith, c.receive-a.ensures.most, c.receive-c.ensures.most, c.receive-e.ensures.most)

pub returns : goal.returns
returns g c =
    let view = ap (λ z. manager_side_of z) c.self-inside.view_is ∙ c.self.view_is in
    manager_fetched view _ _ _ _ _ _ c.receive-a.ensures c.receive-c.ensures c.receive-e.ensures
