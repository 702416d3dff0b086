use Rattle.std.proofs.Common.{ap, ◌∙◌}
use Rattle.tl_sides.proofs.SideSteps.{manager_side_of}
use Rattle.tl_sides.proofs.Layouts.{manager_side_layout, inner_small}
use Rattle.tl_sides.proofs.manager_side.ManagerSide.ready_b.Goals as goal

pub ready-requires : goal.ready-requires
ready-requires g c = inner_small (manager_side_layout g.row.C g.row.M g.row.A g.A.Allocator) 0 1 9223372036854775808 c.requires-raw.1.1.1

pub returns : goal.returns
returns g c = rw (← ap (λ q. manager_side_of q) c.self-inside.view_is ∙ c.self.view_is) c.ready.ensures
