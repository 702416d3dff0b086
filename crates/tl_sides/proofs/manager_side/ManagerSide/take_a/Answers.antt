use Rattle.std.proofs.Common.{ap, ◌∙◌}
use Rattle.tl_sides.proofs.SideSteps.{manager_side_of, side_taken_a}
use Rattle.tl_sides.proofs.Layouts.{manager_side_layout, inner_small, beat_small}
use Rattle.tl_sides.proofs.Lifting.{left_of}
use Rattle.tl_sides.proofs.manager_side.ManagerSide.take_a.Goals as goal

pub take_request-requires : goal.take_request-requires
take_request-requires g c = (
  inner_small (manager_side_layout g.row.C g.row.M g.row.A g.A.Allocator) 0 5 9223372036854775808 c.requires-raw.1.1.1.0,
  (
    inner_small (manager_side_layout g.row.C g.row.M g.row.A g.A.Allocator) 0 0 9223372036854775808 c.requires-raw.1.1.1.0,
    (beat_small g.row.M c.requires.far, c.requires.far),
  ),
)

pub returns : goal.returns
returns g c = rw (← ap (λ q. manager_side_of q) c.self-inside.view_is ∙ c.self.view_is) (side_taken_a (left_of c.self-inside.view_is) _ _ c.take_request.ensures)
