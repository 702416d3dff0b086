use Rattle.std.proofs.Common.{ap, ◌∙◌}
use Rattle.tl_sides.proofs.SideSteps.{client_side_of, side_taken_d}
use Rattle.tl_sides.proofs.Layouts.{client_side_layout, inner_small, beat_small}
use Rattle.tl_sides.proofs.Lifting.{left_of}
use Rattle.tl_sides.proofs.client_side.ClientSide.take_d.Goals as goal

pub take_response-requires : goal.take_response-requires
take_response-requires g c = (
  inner_small (client_side_layout g.row.C g.row.M g.row.A g.A.Allocator) 0 5 9223372036854775808 c.requires-raw.1.1.1.0,
  (
    inner_small (client_side_layout g.row.C g.row.M g.row.A g.A.Allocator) 0 3 9223372036854775808 c.requires-raw.1.1.1.0,
    (beat_small g.row.C c.requires.far, c.requires.far),
  ),
)

pub returns : goal.returns
returns g c = rw (← ap (λ q. client_side_of q) c.self-inside.view_is ∙ c.self.view_is) (side_taken_d (left_of c.self-inside.view_is) _ _ c.take_response.ensures)
