use Rattle.std.proofs.Common.{ap, sym, subst, ◌∙◌, lit<}
use denote.Memory.{lone}
use denote.Param.{layout, param, number}
use Rattle.tl_msg.specs.contracts.head.HeadA as head_a
use Rattle.tl_msg.specs.contracts.head.HeadC as head_c
use Rattle.tl_msg.specs.contracts.head.HeadE as head_e
use Rattle.tl_sides.specs.contracts.receipts.FinishedClient as finished
use Rattle.tl_sides.specs.Receipts.{ClientIsSentOut}
use Rattle.tl_sides.specs.Sides.{ClientStandsFor, AreSides}
use Rattle.tl_sides.proofs.Layouts.{client_side_layout, part, part_small, inner_small, beat_in_queue}
use Rattle.tl_sides.proofs.Finishing.{some_weaker}
use Rattle.tl_sides.proofs.SideSteps.{client_side_of}
use Rattle.tl_sides.proofs.client_side.ClientSide.finish.Goals as goal

pub finish-requires : goal.finish-requires
finish-requires g c =
    let outbox = inner_small (client_side_layout g.row.C g.row.M g.row.A g.A.Allocator) 0 0 9223372036854775808 c.requires-raw.1.1.1.0 in
    let beat = beat_in_queue (lone head_a.the_row.mir) (layout head_a.the_row) g.row.M 9223372036854775808
    (part_small (part (part (client_side_layout g.row.C g.row.M g.row.A g.A.Allocator) 0) 0) 1 9223372036854775808 outbox) in
    let sent_out = subst (λ s. ClientIsSentOut s) (sym (ap (λ p. client_side_of (record c.self.inside { port = p })) c.port.view_is ∙ c.self.view_is)) c.requires in
    (outbox, (beat, (lit< tt, (lit< tt, (sent_out.0.1, sent_out.0.0)))))

pub from_parts-requires : goal.from_parts-requires
from_parts-requires g c = (
  inner_small (client_side_layout g.row.C g.row.M g.row.A g.A.Allocator) 0 1 9223372036854775808 c.requires-raw.1.1.1.0,
  (
    part_small (client_side_layout g.row.C g.row.M g.row.A g.A.Allocator) 2 9223372036854775808 c.requires-raw.1.1.1.0,
    part_small (layout (finished.the_row (param 0 (number g.row.C)) (param 1 (number g.row.M)) (param 2 g.row.A) g.A.Allocator)) 1 9223372036854775808
        c.requires-raw.1.1.1.1.0,
  ),
)

pub finish-requires-2 : goal.finish-requires-2
finish-requires-2 g c =
    let outbox = inner_small (client_side_layout g.row.C g.row.M g.row.A g.A.Allocator) 0 2 9223372036854775808 c.requires-raw.1.1.1.0 in
    let beat = beat_in_queue (lone head_c.the_row.mir) (layout head_c.the_row) g.row.M 9223372036854775808
    (part_small (part (part (client_side_layout g.row.C g.row.M g.row.A g.A.Allocator) 0) 2) 1 9223372036854775808 outbox) in
    let sent_out = subst (λ s. ClientIsSentOut s) (sym (ap (λ p. client_side_of (record c.self.inside { port = p })) c.port.view_is ∙ c.self.view_is)) c.requires in
    (outbox, (beat, (lit< tt, (lit< tt, (sent_out.1.1, sent_out.1.0)))))

pub from_parts-requires-2 : goal.from_parts-requires-2
from_parts-requires-2 g c = (
  inner_small (client_side_layout g.row.C g.row.M g.row.A g.A.Allocator) 0 3 9223372036854775808 c.requires-raw.1.1.1.0,
  (
    part_small (client_side_layout g.row.C g.row.M g.row.A g.A.Allocator) 4 9223372036854775808 c.requires-raw.1.1.1.0,
    part_small (layout (finished.the_row (param 0 (number g.row.C)) (param 1 (number g.row.M)) (param 2 g.row.A) g.A.Allocator)) 3 9223372036854775808
        c.requires-raw.1.1.1.1.0,
  ),
)

pub finish-requires-3 : goal.finish-requires-3
finish-requires-3 g c =
    let outbox = inner_small (client_side_layout g.row.C g.row.M g.row.A g.A.Allocator) 0 4 9223372036854775808 c.requires-raw.1.1.1.0 in
    let beat = beat_in_queue (lone head_e.the_row.mir) (layout head_e.the_row) g.row.M 9223372036854775808
    (part_small (part (part (client_side_layout g.row.C g.row.M g.row.A g.A.Allocator) 0) 4) 1 9223372036854775808 outbox) in
    let sent_out = subst (λ s. ClientIsSentOut s) (sym (ap (λ p. client_side_of (record c.self.inside { port = p })) c.port.view_is ∙ c.self.view_is)) c.requires in
    (outbox, (beat, (lit< tt, (lit< tt, (sent_out.2.1, sent_out.2.0)))))

pub returns-clause-taker : goal.returns-clause-taker
returns-clause-taker g c =
    let view = ap (λ p. client_side_of (record c.self.inside { port = p })) c.port.view_is ∙ c.self.view_is in
    λ t sides. (let ends = subst (λ s. AreSides s t) (sym view) sides in (
      some_weaker c.finish.result (λ r gives. gives t.a ends.a) c.finish.ensures.taker,
      some_weaker c.finish-2.result (λ r gives. gives t.c ends.c) c.finish-2.ensures.taker,
      some_weaker c.finish-3.result (λ r gives. gives t.e ends.e) c.finish-3.ensures.taker,
    ))

pub returns-clause-shows : goal.returns-clause-shows
returns-clause-shows g c =
    let view = ap (λ p. client_side_of (record c.self.inside { port = p })) c.port.view_is ∙ c.self.view_is in
    λ y h. (let now = subst (λ s. ClientStandsFor s y) (sym view) h in (
      c.finish.ensures.shows y.a now.a,
      c.finish-2.ensures.shows y.c now.c,
      c.finish-3.ensures.shows y.e now.e,
    ))
