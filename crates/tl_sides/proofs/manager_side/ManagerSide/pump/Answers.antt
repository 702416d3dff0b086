use Rattle.std.proofs.Common.{ap, ◌∙◌, arith, lit<}
use Rattle.tl_msg.specs.Tables.{rules_b, rules_d}
use Rattle.tl_sides.proofs.Sums.{sum_2}
use denote.Memory.{lone}
use denote.Param.{layout}
use Rattle.tl_msg.specs.contracts.head.HeadA as head_a
use Rattle.tl_msg.specs.contracts.head.HeadB as head_b
use Rattle.tl_msg.specs.contracts.head.HeadD as head_d
use Rattle.tl_sides.proofs.Layouts.{manager_side_layout, part, part_small, inner_small, beat_in_queue}
use Rattle.tl_sides.proofs.SideSteps.{manager_side_of, manager_pumped, pumps_end}
use Rattle.tl_sides.proofs.Times.{at_time}
use Rattle.tl_sides.proofs.manager_side.ManagerSide.pump.Goals as goal

pub clock-clock-requires-room-P-Protocol-2 : goal.clock-clock-requires-room-P-Protocol-2
clock-clock-requires-room-P-Protocol-2 g c κs within =
    beat_in_queue (lone head_a.the_row.mir) (layout head_a.the_row) g.row.M 9223372036854775808
    (part_small (part (part (manager_side_layout g.row.C g.row.M g.row.A g.A.Allocator) 0) 0) 0 9223372036854775808
    (inner_small (manager_side_layout g.row.C g.row.M g.row.A g.A.Allocator) 0 0 9223372036854775808 c.requires-raw.1.1.1))

pub send_staged-b-requires : goal.send_staged-b-requires
send_staged-b-requires g c =
    let outbox = inner_small (manager_side_layout g.row.C g.row.M g.row.A g.A.Allocator) 0 1 9223372036854775808 c.requires-raw.1.1.1 in
    let beat = beat_in_queue (lone head_b.the_row.mir) (layout head_b.the_row) g.row.C 9223372036854775808
    (part_small (part (part (manager_side_layout g.row.C g.row.M g.row.A g.A.Allocator) 0) 1) 1 9223372036854775808 outbox) in
    (outbox, (beat, lit< tt))

pub send_staged-d-requires : goal.send_staged-d-requires
send_staged-d-requires g c =
    let outbox = inner_small (manager_side_layout g.row.C g.row.M g.row.A g.A.Allocator) 0 3 9223372036854775808 c.requires-raw.1.1.1 in
    let beat = beat_in_queue (lone head_d.the_row.mir) (layout head_d.the_row) g.row.C 9223372036854775808
    (part_small (part (part (manager_side_layout g.row.C g.row.M g.row.A g.A.Allocator) 0) 3) 1 9223372036854775808 outbox) in
    (outbox, (beat, lit< tt))

pub overflow_add-result : goal.overflow_add-result
overflow_add-result g c = let few = sum_2 c.send_staged-b.result c.send_staged-d.result c.send_staged-b.ensures.most.1
    c.send_staged-d.ensures.most.1 in omega (arith, few)

pub returns : goal.returns
returns g c =
    let view = ap (λ z. manager_side_of z) c.self-inside.view_is ∙ c.self.view_is in
    manager_pumped view _ _ _ _
    (let said = c.send_staged-b.ensures in
    pumps_end rules_b g.row.M _ _ _ (record { least = said.least; most = said.most; pushed = said.pushed; stands = said.stands }))
    (let said = c.send_staged-d.ensures in
    pumps_end rules_d g.row.M _ _ _ (record { least = said.least; most = said.most; pushed = said.pushed; stands = said.stands }))
    (at_time _ _ _ _ _ c.clock-clock.ensures c.send_staged-d.ensures.times)
