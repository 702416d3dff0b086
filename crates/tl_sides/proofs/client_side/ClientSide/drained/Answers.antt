use Rattle.std.proofs.Common.{ap, sym, subst, ◌∙◌, lit<}
use Rattle.tl_ring.specs.Ends.{IsReceiptOf}
use Rattle.tl_sides.proofs.Layouts.{client_side_layout, part_small, inner_small}
use Rattle.tl_sides.proofs.Finishing.{client_drained}
use Rattle.tl_sides.proofs.SideSteps.{client_side_of}
use Rattle.tl_sides.proofs.client_side.ClientSide.drained.Goals as goal

pub is_drained-b-requires : goal.is_drained-b-requires
is_drained-b-requires g c = (
  part_small (client_side_layout g.row.C g.row.M g.row.A g.A.Allocator) 2 9223372036854775808 c.requires-raw.1.1.1.0,
  (
    inner_small (client_side_layout g.row.C g.row.M g.row.A g.A.Allocator) 0 1 9223372036854775808 c.requires-raw.1.1.1.0,
    (
      lit< tt,
      subst (λ s. IsReceiptOf c.args.receipt.now.b s.b) (sym (ap (λ z. client_side_of z) c.self-inside.view_is ∙ c.self.view_is)) c.requires.0,
    ),
  ),
)

pub is_drained-d-requires : goal.is_drained-d-requires
is_drained-d-requires g c = (
  part_small (client_side_layout g.row.C g.row.M g.row.A g.A.Allocator) 4 9223372036854775808 c.requires-raw.1.1.1.0,
  (
    inner_small (client_side_layout g.row.C g.row.M g.row.A g.A.Allocator) 0 3 9223372036854775808 c.requires-raw.1.1.1.0,
    (
      lit< tt,
      subst (λ s. IsReceiptOf c.args.receipt.now.d s.d) (sym (ap (λ z. client_side_of z) c.self-inside.view_is ∙ c.self.view_is)) c.requires.1,
    ),
  ),
)

pub returns : goal.returns
returns g c =
    let view = ap (λ z. client_side_of z) c.self-inside.view_is ∙ c.self.view_is in
    client_drained view c.args.receipt.now c.is_drained-b.new.receipt c.is_drained-d.new.receipt _ _ c.is_drained-b.result c.is_drained-d.result
    c.is_drained-b.ensures c.is_drained-d.ensures
