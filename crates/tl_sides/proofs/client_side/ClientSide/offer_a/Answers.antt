use Rattle.std.proofs.Common.{ap, ◌∙◌}
use Rattle.tl_sides.proofs.SideSteps.{client_side_of, side_offers_a}
use Rattle.tl_sides.proofs.Layouts.{client_side_layout, inner_small, beat_small}
use Rattle.tl_sides.proofs.Lifting.{left_of}
use Rattle.tl_sides.proofs.client_side.ClientSide.offer_a.Goals as goal

pub offer_request-requires : goal.offer_request-requires
offer_request-requires g c = (
  inner_small (client_side_layout g.row.C g.row.M g.row.A g.A.Allocator) 0 5 9223372036854775808 c.requires-raw.1.1.1.0,
  (
    inner_small (client_side_layout g.row.C g.row.M g.row.A g.A.Allocator) 0 0 9223372036854775808 c.requires-raw.1.1.1.0,
    (beat_small g.row.C c.requires.near, (c.requires.near, c.requires.far, rw (← ap (λ q. client_side_of q) c.self-inside.view_is ∙ c.self.view_is) at c.requires.ready)),
  ),
)

pub returns : goal.returns
returns g c =
    let view = ap (λ q. client_side_of q) c.self-inside.view_is ∙ c.self.view_is in
    rw (← view) (side_offers_a (left_of c.self-inside.view_is) _ _ _ (rw (← view) at c.requires.ready) c.offer_request.ensures)
