use Rattle.std.proofs.Common.{ap, ◌∙◌}
use Rattle.tl_sides.proofs.Finishing.{all_three}
use Rattle.tl_sides.proofs.Layouts.{client_side_layout, inner_small}
use Rattle.tl_sides.proofs.SideSteps.{client_side_of}
use Rattle.tl_sides.proofs.client_side.ClientSide.is_sent_out.Goals as goal

pub is_sent_out-requires : goal.is_sent_out-requires
is_sent_out-requires g c = inner_small (client_side_layout g.row.C g.row.M g.row.A g.A.Allocator) 0 0 9223372036854775808 c.requires-raw.1.1.1

pub is_sent_out-requires-2 : goal.is_sent_out-requires-2
is_sent_out-requires-2 g c = inner_small (client_side_layout g.row.C g.row.M g.row.A g.A.Allocator) 0 2 9223372036854775808 c.requires-raw.1.1.1

pub is_sent_out-requires-3 : goal.is_sent_out-requires-3
is_sent_out-requires-3 g c = inner_small (client_side_layout g.row.C g.row.M g.row.A g.A.Allocator) 0 4 9223372036854775808 c.requires-raw.1.1.1

pub returns : goal.returns
returns g c = rw (← ap (λ q. client_side_of q) c.self-inside.view_is ∙ c.self.view_is)
    (all_three c.is_sent_out.result c.is_sent_out-2.result c.is_sent_out-3.result c.is_sent_out.ensures c.is_sent_out-2.ensures c.is_sent_out-3.ensures)
