use Rattle.std.proofs.Common.{ap, ◌∙◌}
use Rattle.tl_sides.proofs.SideSteps.{client_side_of}
use Rattle.tl_sides.proofs.Layouts.{client_side_layout, inner_small}
use Rattle.tl_sides.proofs.client_side.ClientSide.ready_e.Goals as goal

pub ready-requires : goal.ready-requires
ready-requires g c = inner_small (client_side_layout g.row.C g.row.M g.row.A g.A.Allocator) 0 4 9223372036854775808 c.requires-raw.1.1.1

pub returns : goal.returns
returns g c = rw (← ap (λ q. client_side_of q) c.self-inside.view_is ∙ c.self.view_is) c.ready.ensures
