use Rattle.std.proofs.Common.{ap, ◌∙◌}
use Rattle.tl_sides.proofs.SideSteps.{manager_side_of, side_offers_b}
use Rattle.tl_sides.proofs.Layouts.{manager_side_layout, inner_small, beat_small}
use Rattle.tl_sides.proofs.Lifting.{left_of}
use Rattle.tl_sides.proofs.manager_side.ManagerSide.offer_b.Goals as goal

pub offer_alone-requires : goal.offer_alone-requires
offer_alone-requires g c = (
  inner_small (manager_side_layout g.row.C g.row.M g.row.A g.A.Allocator) 0 1 9223372036854775808 c.requires-raw.1.1.1.0,
  (beat_small g.row.M c.requires.near, (c.requires.near, c.requires.far, rw (← ap (λ q. manager_side_of q) c.self-inside.view_is ∙ c.self.view_is) at c.requires.ready)),
)

pub returns : goal.returns
returns g c =
    let view = ap (λ q. manager_side_of q) c.self-inside.view_is ∙ c.self.view_is in
    rw (← view) (side_offers_b (left_of c.self-inside.view_is) _ _ _ (rw (← view) at c.requires.ready) c.offer_alone.ensures)
