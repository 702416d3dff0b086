use Rattle.std.proofs.Common.{ap, ◌∙◌}
use Rattle.tl_sides.proofs.SideSteps.{manager_side_of, side_offers_d}
use Rattle.tl_sides.proofs.Layouts.{manager_side_layout, inner_small, beat_small}
use Rattle.tl_sides.proofs.Lifting.{left_of}
use Rattle.tl_sides.proofs.manager_side.ManagerSide.offer_d.Goals as goal

pub offer_response-requires : goal.offer_response-requires
offer_response-requires g c = (
  inner_small (manager_side_layout g.row.C g.row.M g.row.A g.A.Allocator) 0 5 9223372036854775808 c.requires-raw.1.1.1.0,
  (
    inner_small (manager_side_layout g.row.C g.row.M g.row.A g.A.Allocator) 0 3 9223372036854775808 c.requires-raw.1.1.1.0,
    (beat_small g.row.M c.requires.near, (c.requires.near, c.requires.far, rw (← ap (λ q. manager_side_of q) c.self-inside.view_is ∙ c.self.view_is) at c.requires.ready)),
  ),
)

pub returns : goal.returns
returns g c =
    let view = ap (λ q. manager_side_of q) c.self-inside.view_is ∙ c.self.view_is in
    rw (← view) (side_offers_d (left_of c.self-inside.view_is) _ _ _ (rw (← view) at c.requires.ready) c.offer_response.ensures)
