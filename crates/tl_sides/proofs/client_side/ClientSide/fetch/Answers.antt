use Rattle.std.proofs.Common.{ap, ◌∙◌, arith}
use Rattle.tl_sides.proofs.Layouts.{client_side_layout, part_small, inner_small}
use Rattle.tl_sides.proofs.SideSteps.{client_side_of, client_fetched}
use Rattle.tl_sides.proofs.client_side.ClientSide.fetch.Goals as goal

-- Each half of a ring, and each inbox, is a part of the side.
-- (A must-fail edit, which calls the book too, puts its answer in the place of these lines.)
pub receive-b-requires : goal.receive-b-requires
receive-b-requires g c = (
  search (part_small (client_side_layout g.row.C g.row.M g.row.A g.A.Allocator) 2 9223372036854775808),
  search (inner_small (client_side_layout g.row.C g.row.M g.row.A g.A.Allocator) 0 1 9223372036854775808),
)

pub receive-d-requires : goal.receive-d-requires
receive-d-requires g c = (
  search (part_small (client_side_layout g.row.C g.row.M g.row.A g.A.Allocator) 4 9223372036854775808),
  search (inner_small (client_side_layout g.row.C g.row.M g.row.A g.A.Allocator) 0 3 9223372036854775808),
)

pub overflow_add-result : goal.overflow_add-result
overflow_add-result g c = omega (arith, c.receive-b.ensures.most, c.receive-d.ensures.most)

pub returns : goal.returns
returns g c =
    let view = ap (λ z. client_side_of z) c.self-inside.view_is ∙ c.self.view_is in
    client_fetched view _ _ _ _ c.receive-b.ensures c.receive-d.ensures
