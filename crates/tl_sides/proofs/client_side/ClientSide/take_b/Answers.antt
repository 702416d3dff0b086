use Rattle.std.proofs.Common.{ap, ◌∙◌}
use Rattle.tl_sides.proofs.Words.{rules_b}
use Rattle.tl_sides.proofs.BoxSteps.{takes_inbox}
use Rattle.tl_sides.proofs.SideSteps.{client_side_of, side_taken_b}
use Rattle.tl_sides.proofs.Layouts.{client_side_layout, inner_small}
use Rattle.tl_sides.proofs.Lifting.{left_of}
use Rattle.tl_sides.proofs.client_side.ClientSide.take_b.Goals as goal

pub take-requires : goal.take-requires
take-requires g c = (inner_small (client_side_layout g.row.C g.row.M g.row.A g.A.Allocator) 0 1 9223372036854775808 c.requires-raw.1.1.1.0, c.requires-raw.1.1.1.1)

pub returns : goal.returns
returns g c = rw (← ap (λ q. client_side_of q) c.self-inside.view_is ∙ c.self.view_is) (side_taken_b (left_of c.self-inside.view_is) _ _ (takes_inbox rules_b _ _ _ c.take.ensures))
