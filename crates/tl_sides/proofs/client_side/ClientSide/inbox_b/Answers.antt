use Rattle.std.proofs.Common.{ap, ◌∙◌}
use Rattle.tl_sides.proofs.Layouts.{client_side_layout, inner_small}
use Rattle.tl_sides.proofs.SideSteps.{client_side_of}
use Rattle.tl_sides.proofs.client_side.ClientSide.inbox_b.Goals as goal

pub as_slice-requires : goal.as_slice-requires
as_slice-requires g c = (
  inner_small (client_side_layout g.row.C g.row.M g.row.A g.A.Allocator) 0 1 9223372036854775808
      c.requires-raw.1.1.1.0,
  c.requires-raw.1.1.1.1,
)

pub returns : goal.returns
returns g c = rw (← ap (λ z. client_side_of z) c.self-inside.view_is ∙ c.self.view_is) c.as_slice.ensures.beats
