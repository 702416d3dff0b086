use Rattle.std.proofs.Common.{ap, sym, subst, ◌∙◌}
use denote.Memory.{lone}
use denote.Param.{layout}
use Rattle.tl_msg.specs.contracts.head.HeadA as head_a
use Rattle.tl_msg.specs.contracts.head.HeadC as head_c
use Rattle.tl_msg.specs.contracts.head.HeadE as head_e
use Rattle.tl_ring.proofs.Times.{items_length}
use Rattle.tl_ring.specs.Counts.{counted}
use Rattle.tl_sides.specs.Sides.{ClientStandsFor}
use Rattle.tl_sides.proofs.Layouts.{client_side_layout, part, part_small, inner_small, beat_in_queue}
use Rattle.tl_sides.proofs.SideSteps.{client_side_of}
use Rattle.tl_sides.proofs.Totals.{number_sent}
use Rattle.tl_sides.proofs.client_side.ClientSide.totals.Goals as goal

pub count-requires-room-P-Protocol-2 : goal.count-requires-room-P-Protocol-2
count-requires-room-P-Protocol-2 g c κs within =
    beat_in_queue (lone head_a.the_row.mir) (layout head_a.the_row) g.row.M 9223372036854775808
    (part_small (part (part (client_side_layout g.row.C g.row.M g.row.A g.A.Allocator) 0) 0) 1 9223372036854775808
    (inner_small (client_side_layout g.row.C g.row.M g.row.A g.A.Allocator) 0 0 9223372036854775808 c.requires-raw.1.1.1))

pub count-requires-2-room-P-Protocol-2 : goal.count-requires-2-room-P-Protocol-2
count-requires-2-room-P-Protocol-2 g c κs within =
    beat_in_queue (lone head_c.the_row.mir) (layout head_c.the_row) g.row.M 9223372036854775808
    (part_small (part (part (client_side_layout g.row.C g.row.M g.row.A g.A.Allocator) 0) 2) 1 9223372036854775808
    (inner_small (client_side_layout g.row.C g.row.M g.row.A g.A.Allocator) 0 2 9223372036854775808 c.requires-raw.1.1.1))

pub count-requires-3-room-P-Protocol-2 : goal.count-requires-3-room-P-Protocol-2
count-requires-3-room-P-Protocol-2 g c κs within =
    beat_in_queue (lone head_e.the_row.mir) (layout head_e.the_row) g.row.M 9223372036854775808
    (part_small (part (part (client_side_layout g.row.C g.row.M g.row.A g.A.Allocator) 0) 4) 1 9223372036854775808
    (inner_small (client_side_layout g.row.C g.row.M g.row.A g.A.Allocator) 0 4 9223372036854775808 c.requires-raw.1.1.1))

pub taken_count-requires : goal.taken_count-requires
taken_count-requires g c = (
  part_small (client_side_layout g.row.C g.row.M g.row.A g.A.Allocator) 2 9223372036854775808 c.requires-raw.1.1.1,
  inner_small (client_side_layout g.row.C g.row.M g.row.A g.A.Allocator) 0 1 9223372036854775808 c.requires-raw.1.1.1,
)

pub taken_count-requires-2 : goal.taken_count-requires-2
taken_count-requires-2 g c = (
  part_small (client_side_layout g.row.C g.row.M g.row.A g.A.Allocator) 4 9223372036854775808 c.requires-raw.1.1.1,
  inner_small (client_side_layout g.row.C g.row.M g.row.A g.A.Allocator) 0 3 9223372036854775808 c.requires-raw.1.1.1,
)

pub returns-clause-totals : goal.returns-clause-totals
returns-clause-totals g c =
    let view = ap (λ z. client_side_of z) c.self-inside.view_is ∙ c.self.view_is in
    rw (← view) (λ i. record {
      a = (c.count.ensures ∙ ap counted (sym (items_length _))) i;
      b = c.taken_count.ensures.count i;
      c = (c.count-2.ensures ∙ ap counted (sym (items_length _))) i;
      d = c.taken_count-2.ensures.count i;
      e = (c.count-3.ensures ∙ ap counted (sym (items_length _))) i;
    })

pub returns-clause-exact : goal.returns-clause-exact
returns-clause-exact g c = λ x h.
    let view = ap (λ z. client_side_of z) c.self-inside.view_is ∙ c.self.view_is in
    let now = subst (λ s. ClientStandsFor s x) (sym view) h in
    record {
      a = number_sent _ x.a.taken c.count.ensures now.a.sent;
      b = c.taken_count.ensures.exact _ now.b;
      c = number_sent _ x.c.taken c.count-2.ensures now.c.sent;
      d = c.taken_count-2.ensures.exact _ now.d;
      e = number_sent _ x.e.taken c.count-3.ensures now.e.sent;
    }
