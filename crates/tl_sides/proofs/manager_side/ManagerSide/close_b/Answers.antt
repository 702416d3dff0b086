use Rattle.std.proofs.Common.{ap, ◌∙◌}
use Rattle.tl_sides.proofs.Words.{rules_b}
use Rattle.tl_sides.proofs.BoxSteps.{closes_outbox}
use Rattle.tl_sides.proofs.SideSteps.{manager_side_of, side_closes_b}
use Rattle.tl_sides.proofs.Layouts.{manager_side_layout, inner_small}
use Rattle.tl_sides.proofs.Lifting.{left_of}
use Rattle.tl_sides.proofs.manager_side.ManagerSide.close_b.Goals as goal

pub close-requires : goal.close-requires
close-requires g c = inner_small (manager_side_layout g.row.C g.row.M g.row.A g.A.Allocator) 0 1 9223372036854775808 c.requires-raw.1.1.1

pub returns : goal.returns
returns g c = rw (← ap (λ q. manager_side_of q) c.self-inside.view_is ∙ c.self.view_is)
    (side_closes_b (left_of c.self-inside.view_is) _ _ (closes_outbox rules_b g.row.M _ _ _ c.close.ensures))
