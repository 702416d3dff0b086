use Rattle.std.proofs.Common.{ap, ◌∙◌, arith, lit<}
use Rattle.tl_msg.specs.Tables.{rules_a, rules_c, rules_e}
use Rattle.tl_sides.proofs.Sums.{sum_2, sum_3}
use denote.Memory.{lone}
use denote.Param.{layout}
use Rattle.tl_msg.specs.contracts.head.HeadA as head_a
use Rattle.tl_msg.specs.contracts.head.HeadC as head_c
use Rattle.tl_msg.specs.contracts.head.HeadD as head_d
use Rattle.tl_msg.specs.contracts.head.HeadE as head_e
use Rattle.tl_sides.proofs.Layouts.{client_side_layout, part, part_small, inner_small, beat_in_queue}
use Rattle.tl_sides.proofs.SideSteps.{client_side_of, client_pumped, pumps_end}
use Rattle.tl_sides.proofs.Times.{at_time}
use Rattle.tl_sides.proofs.client_side.ClientSide.pump.Goals as goal

pub clock-clock-requires-room-P-Protocol-2 : goal.clock-clock-requires-room-P-Protocol-2
clock-clock-requires-room-P-Protocol-2 g c κs within =
    beat_in_queue (lone head_d.the_row.mir) (layout head_d.the_row) g.row.C 9223372036854775808
    (part_small (part (part (client_side_layout g.row.C g.row.M g.row.A g.A.Allocator) 0) 3) 0 9223372036854775808
    (inner_small (client_side_layout g.row.C g.row.M g.row.A g.A.Allocator) 0 3 9223372036854775808 c.requires-raw.1.1.1))

pub send_staged-a-requires : goal.send_staged-a-requires
send_staged-a-requires g c =
    let outbox = inner_small (client_side_layout g.row.C g.row.M g.row.A g.A.Allocator) 0 0 9223372036854775808 c.requires-raw.1.1.1 in
    let beat = beat_in_queue (lone head_a.the_row.mir) (layout head_a.the_row) g.row.M 9223372036854775808
    (part_small (part (part (client_side_layout g.row.C g.row.M g.row.A g.A.Allocator) 0) 0) 1 9223372036854775808 outbox) in
    (outbox, (beat, lit< tt))

pub send_staged-c-requires : goal.send_staged-c-requires
send_staged-c-requires g c =
    let outbox = inner_small (client_side_layout g.row.C g.row.M g.row.A g.A.Allocator) 0 2 9223372036854775808 c.requires-raw.1.1.1 in
    let beat = beat_in_queue (lone head_c.the_row.mir) (layout head_c.the_row) g.row.M 9223372036854775808
    (part_small (part (part (client_side_layout g.row.C g.row.M g.row.A g.A.Allocator) 0) 2) 1 9223372036854775808 outbox) in
    (outbox, (beat, lit< tt))

pub send_staged-e-requires : goal.send_staged-e-requires
send_staged-e-requires g c =
    let outbox = inner_small (client_side_layout g.row.C g.row.M g.row.A g.A.Allocator) 0 4 9223372036854775808 c.requires-raw.1.1.1 in
    let beat = beat_in_queue (lone head_e.the_row.mir) (layout head_e.the_row) g.row.M 9223372036854775808
    (part_small (part (part (client_side_layout g.row.C g.row.M g.row.A g.A.Allocator) 0) 4) 1 9223372036854775808 outbox) in
    (outbox, (beat, lit< tt))

pub overflow_add-result : goal.overflow_add-result
overflow_add-result g c = let few = sum_2 c.send_staged-a.result c.send_staged-c.result c.send_staged-a.ensures.most.1
    c.send_staged-c.ensures.most.1 in omega (arith, few)

pub overflow_add-result-2 : goal.overflow_add-result-2
overflow_add-result-2 g c = let few = sum_3 c.send_staged-a.result c.send_staged-c.result c.send_staged-e.result c.send_staged-a.ensures.most.1
    c.send_staged-c.ensures.most.1 c.send_staged-e.ensures.most.1 in omega (arith, few)

pub returns : goal.returns
returns g c =
    let view = ap (λ z. client_side_of z) c.self-inside.view_is ∙ c.self.view_is in
    client_pumped view _ _ _ _ _ _
    (let said = c.send_staged-a.ensures in
    pumps_end rules_a g.row.C _ _ _ (record { least = said.least; most = said.most; pushed = said.pushed; stands = said.stands }))
    (let said = c.send_staged-c.ensures in
    pumps_end rules_c g.row.C _ _ _ (record { least = said.least; most = said.most; pushed = said.pushed; stands = said.stands }))
    (let said = c.send_staged-e.ensures in
    pumps_end rules_e g.row.C _ _ _ (record { least = said.least; most = said.most; pushed = said.pushed; stands = said.stands }))
    (at_time _ _ _ _ _ c.clock-clock.ensures c.send_staged-a.ensures.times)
