use Rattle.std.proofs.Common.{ap, sym, subst, ◌∙◌}
use denote.Memory.{lone}
use denote.Param.{layout}
use Rattle.tl_msg.specs.contracts.head.HeadB as head_b
use Rattle.tl_msg.specs.contracts.head.HeadD as head_d
use Rattle.tl_ring.proofs.Times.{items_length}
use Rattle.tl_ring.specs.Counts.{counted}
use Rattle.tl_sides.specs.Sides.{ManagerStandsFor}
use Rattle.tl_sides.proofs.Layouts.{manager_side_layout, part, part_small, inner_small, beat_in_queue}
use Rattle.tl_sides.proofs.SideSteps.{manager_side_of}
use Rattle.tl_sides.proofs.Totals.{number_sent}
use Rattle.tl_sides.proofs.manager_side.ManagerSide.totals.Goals as goal

pub count-requires-room-P-Protocol-2 : goal.count-requires-room-P-Protocol-2
count-requires-room-P-Protocol-2 g c κs within =
    beat_in_queue (lone head_b.the_row.mir) (layout head_b.the_row) g.row.C 9223372036854775808
    (part_small (part (part (manager_side_layout g.row.C g.row.M g.row.A g.A.Allocator) 0) 1) 1 9223372036854775808
    (inner_small (manager_side_layout g.row.C g.row.M g.row.A g.A.Allocator) 0 1 9223372036854775808 c.requires-raw.1.1.1))

pub count-requires-2-room-P-Protocol-2 : goal.count-requires-2-room-P-Protocol-2
count-requires-2-room-P-Protocol-2 g c κs within =
    beat_in_queue (lone head_d.the_row.mir) (layout head_d.the_row) g.row.C 9223372036854775808
    (part_small (part (part (manager_side_layout g.row.C g.row.M g.row.A g.A.Allocator) 0) 3) 1 9223372036854775808
    (inner_small (manager_side_layout g.row.C g.row.M g.row.A g.A.Allocator) 0 3 9223372036854775808 c.requires-raw.1.1.1))

pub taken_count-requires : goal.taken_count-requires
taken_count-requires g c = (
  part_small (manager_side_layout g.row.C g.row.M g.row.A g.A.Allocator) 1 9223372036854775808 c.requires-raw.1.1.1,
  inner_small (manager_side_layout g.row.C g.row.M g.row.A g.A.Allocator) 0 0 9223372036854775808 c.requires-raw.1.1.1,
)

pub taken_count-requires-2 : goal.taken_count-requires-2
taken_count-requires-2 g c = (
  part_small (manager_side_layout g.row.C g.row.M g.row.A g.A.Allocator) 3 9223372036854775808 c.requires-raw.1.1.1,
  inner_small (manager_side_layout g.row.C g.row.M g.row.A g.A.Allocator) 0 2 9223372036854775808 c.requires-raw.1.1.1,
)

pub taken_count-requires-3 : goal.taken_count-requires-3
taken_count-requires-3 g c = (
  part_small (manager_side_layout g.row.C g.row.M g.row.A g.A.Allocator) 5 9223372036854775808 c.requires-raw.1.1.1,
  inner_small (manager_side_layout g.row.C g.row.M g.row.A g.A.Allocator) 0 4 9223372036854775808 c.requires-raw.1.1.1,
)

pub returns-clause-totals : goal.returns-clause-totals
returns-clause-totals g c =
    let view = ap (λ z. manager_side_of z) c.self-inside.view_is ∙ c.self.view_is in
    rw (← view) (λ i. record {
      a = c.taken_count.ensures.count i;
      b = (c.count.ensures ∙ ap counted (sym (items_length _))) i;
      c = c.taken_count-2.ensures.count i;
      d = (c.count-2.ensures ∙ ap counted (sym (items_length _))) i;
      e = c.taken_count-3.ensures.count i;
    })

pub returns-clause-exact : goal.returns-clause-exact
returns-clause-exact g c = λ y h.
    let view = ap (λ z. manager_side_of z) c.self-inside.view_is ∙ c.self.view_is in
    let now = subst (λ s. ManagerStandsFor s y) (sym view) h in
    record {
      a = c.taken_count.ensures.exact _ now.a;
      b = number_sent _ y.b.taken c.count.ensures now.b.sent;
      c = c.taken_count-2.ensures.exact _ now.c;
      d = number_sent _ y.d.taken c.count-2.ensures now.d.sent;
      e = c.taken_count-3.ensures.exact _ now.e;
    }
