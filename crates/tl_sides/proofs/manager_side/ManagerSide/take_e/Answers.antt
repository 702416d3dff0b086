use Rattle.std.proofs.Common.{ap, ◌∙◌}
use Rattle.tl_sides.proofs.Words.{rules_e}
use Rattle.tl_sides.proofs.BoxSteps.{takes_inbox}
use Rattle.tl_sides.proofs.SideSteps.{manager_side_of, side_taken_e}
use Rattle.tl_sides.proofs.Layouts.{manager_side_layout, inner_small}
use Rattle.tl_sides.proofs.Lifting.{left_of}
use Rattle.tl_sides.proofs.manager_side.ManagerSide.take_e.Goals as goal

pub take-requires : goal.take-requires
take-requires g c = (inner_small (manager_side_layout g.row.C g.row.M g.row.A g.A.Allocator) 0 4 9223372036854775808 c.requires-raw.1.1.1.0, c.requires-raw.1.1.1.1)

pub returns : goal.returns
returns g c = rw (← ap (λ q. manager_side_of q) c.self-inside.view_is ∙ c.self.view_is) (side_taken_e (left_of c.self-inside.view_is) _ _ (takes_inbox rules_e _ _ _ c.take.ensures))
