use Rattle.std.proofs.Common.{ap, ◌∙◌}
use Rattle.tl_sides.proofs.Words.{rules_a}
use Rattle.tl_sides.proofs.BoxSteps.{closes_outbox}
use Rattle.tl_sides.proofs.SideSteps.{client_side_of, side_closes_a}
use Rattle.tl_sides.proofs.Layouts.{client_side_layout, inner_small}
use Rattle.tl_sides.proofs.Lifting.{left_of}
use Rattle.tl_sides.proofs.client_side.ClientSide.close_a.Goals as goal

pub close-requires : goal.close-requires
close-requires g c = inner_small (client_side_layout g.row.C g.row.M g.row.A g.A.Allocator) 0 0 9223372036854775808 c.requires-raw.1.1.1

pub returns : goal.returns
returns g c = rw (← ap (λ q. client_side_of q) c.self-inside.view_is ∙ c.self.view_is)
    (side_closes_a (left_of c.self-inside.view_is) _ _ (closes_outbox rules_a g.row.C _ _ _ c.close.ensures))
