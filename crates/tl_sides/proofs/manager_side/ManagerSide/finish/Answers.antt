use Rattle.std.proofs.Common.{ap, sym, subst, ◌∙◌, lit<}
use denote.Memory.{lone}
use denote.Param.{layout, param, number}
use Rattle.tl_msg.specs.contracts.head.HeadB as head_b
use Rattle.tl_msg.specs.contracts.head.HeadD as head_d
use Rattle.tl_sides.specs.contracts.receipts.FinishedManager as finished
use Rattle.tl_sides.specs.Receipts.{ManagerIsSentOut}
use Rattle.tl_sides.specs.Sides.{ManagerStandsFor, AreSides}
use Rattle.tl_sides.proofs.Layouts.{manager_side_layout, part, part_small, inner_small, beat_in_queue}
use Rattle.tl_sides.proofs.Finishing.{some_weaker}
use Rattle.tl_sides.proofs.SideSteps.{manager_side_of}
use Rattle.tl_sides.proofs.manager_side.ManagerSide.finish.Goals as goal

pub from_parts-requires : goal.from_parts-requires
from_parts-requires g c = (
  inner_small (manager_side_layout g.row.C g.row.M g.row.A g.A.Allocator) 0 0 9223372036854775808 c.requires-raw.1.1.1.0,
  (
    part_small (manager_side_layout g.row.C g.row.M g.row.A g.A.Allocator) 1 9223372036854775808 c.requires-raw.1.1.1.0,
    part_small (layout (finished.the_row (param 0 (number g.row.C)) (param 1 (number g.row.M)) (param 2 g.row.A) g.A.Allocator)) 0 9223372036854775808
        c.requires-raw.1.1.1.1.0,
  ),
)

pub finish-requires : goal.finish-requires
finish-requires g c =
    let outbox = inner_small (manager_side_layout g.row.C g.row.M g.row.A g.A.Allocator) 0 1 9223372036854775808 c.requires-raw.1.1.1.0 in
    let beat = beat_in_queue (lone head_b.the_row.mir) (layout head_b.the_row) g.row.C 9223372036854775808
    (part_small (part (part (manager_side_layout g.row.C g.row.M g.row.A g.A.Allocator) 0) 1) 1 9223372036854775808 outbox) in
    let sent_out = subst (λ s. ManagerIsSentOut s) (sym (ap (λ p. manager_side_of (record c.self.inside { port = p })) c.port.view_is ∙ c.self.view_is)) c.requires in
    (outbox, (beat, (lit< tt, (lit< tt, (sent_out.0.1, sent_out.0.0)))))

pub from_parts-requires-2 : goal.from_parts-requires-2
from_parts-requires-2 g c = (
  inner_small (manager_side_layout g.row.C g.row.M g.row.A g.A.Allocator) 0 2 9223372036854775808 c.requires-raw.1.1.1.0,
  (
    part_small (manager_side_layout g.row.C g.row.M g.row.A g.A.Allocator) 3 9223372036854775808 c.requires-raw.1.1.1.0,
    part_small (layout (finished.the_row (param 0 (number g.row.C)) (param 1 (number g.row.M)) (param 2 g.row.A) g.A.Allocator)) 2 9223372036854775808
        c.requires-raw.1.1.1.1.0,
  ),
)

pub finish-requires-2 : goal.finish-requires-2
finish-requires-2 g c =
    let outbox = inner_small (manager_side_layout g.row.C g.row.M g.row.A g.A.Allocator) 0 3 9223372036854775808 c.requires-raw.1.1.1.0 in
    let beat = beat_in_queue (lone head_d.the_row.mir) (layout head_d.the_row) g.row.C 9223372036854775808
    (part_small (part (part (manager_side_layout g.row.C g.row.M g.row.A g.A.Allocator) 0) 3) 1 9223372036854775808 outbox) in
    let sent_out = subst (λ s. ManagerIsSentOut s) (sym (ap (λ p. manager_side_of (record c.self.inside { port = p })) c.port.view_is ∙ c.self.view_is)) c.requires in
    (outbox, (beat, (lit< tt, (lit< tt, (sent_out.1.1, sent_out.1.0)))))

pub from_parts-requires-3 : goal.from_parts-requires-3
from_parts-requires-3 g c = (
  inner_small (manager_side_layout g.row.C g.row.M g.row.A g.A.Allocator) 0 4 9223372036854775808 c.requires-raw.1.1.1.0,
  (
    part_small (manager_side_layout g.row.C g.row.M g.row.A g.A.Allocator) 5 9223372036854775808 c.requires-raw.1.1.1.0,
    part_small (layout (finished.the_row (param 0 (number g.row.C)) (param 1 (number g.row.M)) (param 2 g.row.A) g.A.Allocator)) 4 9223372036854775808
        c.requires-raw.1.1.1.1.0,
  ),
)

pub returns-clause-taker : goal.returns-clause-taker
returns-clause-taker g c =
    let view = ap (λ p. manager_side_of (record c.self.inside { port = p })) c.port.view_is ∙ c.self.view_is in
    λ t sides. (let ends = subst (λ s. AreSides t s) (sym view) sides in (
      some_weaker c.finish.result (λ r gives. gives t.b ends.b) c.finish.ensures.taker,
      some_weaker c.finish-2.result (λ r gives. gives t.d ends.d) c.finish-2.ensures.taker,
    ))

pub returns-clause-shows : goal.returns-clause-shows
returns-clause-shows g c =
    let view = ap (λ p. manager_side_of (record c.self.inside { port = p })) c.port.view_is ∙ c.self.view_is in
    λ y h. (let now = subst (λ s. ManagerStandsFor s y) (sym view) h in (
      c.finish.ensures.shows y.b now.b,
      c.finish-2.ensures.shows y.d now.d,
    ))
