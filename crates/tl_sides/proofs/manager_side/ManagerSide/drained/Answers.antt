use Rattle.std.proofs.Common.{ap, sym, subst, ◌∙◌, lit<}
use Rattle.tl_ring.specs.Ends.{IsReceiptOf}
use Rattle.tl_sides.proofs.Layouts.{manager_side_layout, part_small, inner_small}
use Rattle.tl_sides.proofs.Finishing.{manager_drained}
use Rattle.tl_sides.proofs.SideSteps.{manager_side_of}
use Rattle.tl_sides.proofs.manager_side.ManagerSide.drained.Goals as goal

pub is_drained-a-requires : goal.is_drained-a-requires
is_drained-a-requires g c = (
  part_small (manager_side_layout g.row.C g.row.M g.row.A g.A.Allocator) 1 9223372036854775808 c.requires-raw.1.1.1.0,
  (
    inner_small (manager_side_layout g.row.C g.row.M g.row.A g.A.Allocator) 0 0 9223372036854775808 c.requires-raw.1.1.1.0,
    (
      lit< tt,
      subst (λ s. IsReceiptOf c.args.receipt.now.a s.a) (sym (ap (λ z. manager_side_of z) c.self-inside.view_is ∙ c.self.view_is)) c.requires.0,
    ),
  ),
)

pub is_drained-c-requires : goal.is_drained-c-requires
is_drained-c-requires g c = (
  part_small (manager_side_layout g.row.C g.row.M g.row.A g.A.Allocator) 3 9223372036854775808 c.requires-raw.1.1.1.0,
  (
    inner_small (manager_side_layout g.row.C g.row.M g.row.A g.A.Allocator) 0 2 9223372036854775808 c.requires-raw.1.1.1.0,
    (
      lit< tt,
      subst (λ s. IsReceiptOf c.args.receipt.now.c s.c) (sym (ap (λ z. manager_side_of z) c.self-inside.view_is ∙ c.self.view_is)) c.requires.1,
    ),
  ),
)

pub is_drained-e-requires : goal.is_drained-e-requires
is_drained-e-requires g c = (
  part_small (manager_side_layout g.row.C g.row.M g.row.A g.A.Allocator) 5 9223372036854775808 c.requires-raw.1.1.1.0,
  (
    inner_small (manager_side_layout g.row.C g.row.M g.row.A g.A.Allocator) 0 4 9223372036854775808 c.requires-raw.1.1.1.0,
    (
      lit< tt,
      subst (λ s. IsReceiptOf c.args.receipt.now.e s.e) (sym (ap (λ z. manager_side_of z) c.self-inside.view_is ∙ c.self.view_is)) c.requires.2,
    ),
  ),
)

pub returns : goal.returns
returns g c =
    let view = ap (λ z. manager_side_of z) c.self-inside.view_is ∙ c.self.view_is in
    manager_drained view c.args.receipt.now c.is_drained-a.new.receipt c.is_drained-c.new.receipt c.is_drained-e.new.receipt _ _ _ c.is_drained-a.result c.is_drained-c.result c.is_drained-e.result
    c.is_drained-a.ensures c.is_drained-c.ensures c.is_drained-e.ensures
