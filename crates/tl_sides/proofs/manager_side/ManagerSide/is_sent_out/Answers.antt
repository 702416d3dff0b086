use Rattle.std.proofs.Common.{ap, ◌∙◌}
use Rattle.tl_sides.proofs.Finishing.{both}
use Rattle.tl_sides.proofs.Layouts.{manager_side_layout, inner_small}
use Rattle.tl_sides.proofs.SideSteps.{manager_side_of}
use Rattle.tl_sides.proofs.manager_side.ManagerSide.is_sent_out.Goals as goal

pub is_sent_out-requires : goal.is_sent_out-requires
is_sent_out-requires g c = inner_small (manager_side_layout g.row.C g.row.M g.row.A g.A.Allocator) 0 1 9223372036854775808 c.requires-raw.1.1.1

pub is_sent_out-requires-2 : goal.is_sent_out-requires-2
is_sent_out-requires-2 g c = inner_small (manager_side_layout g.row.C g.row.M g.row.A g.A.Allocator) 0 3 9223372036854775808 c.requires-raw.1.1.1

pub returns : goal.returns
returns g c = rw (← ap (λ q. manager_side_of q) c.self-inside.view_is ∙ c.self.view_is)
    (both c.is_sent_out.result c.is_sent_out-2.result c.is_sent_out.ensures c.is_sent_out-2.ensures)
