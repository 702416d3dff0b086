use Rattle.std.proofs.Common.{◌∙◌, sym}
use Rattle.tl_ring.proofs.Times.{items_length}
use Rattle.tl_sides.proofs.Words.{rules_a, rules_b, rules_c, rules_d, rules_e, met_of}
use denote.Memory.{lone}
use denote.Param.{layout}
use Rattle.tl_msg.specs.contracts.head.HeadA as head_a
use Rattle.tl_msg.specs.contracts.head.HeadB as head_b
use Rattle.tl_msg.specs.contracts.head.HeadC as head_c
use Rattle.tl_msg.specs.contracts.head.HeadD as head_d
use Rattle.tl_msg.specs.contracts.head.HeadE as head_e
use Rattle.tl_sides.proofs.Layouts.{client_side_layout, manager_side_layout, part, part_small, inner_small, beat_in_queue}
use Rattle.tl_sides.proofs.SideSteps.{sides_inside, sides_met, ends_meet}
use Rattle.tl_sides.proofs.sides.meet_sides.Goals as goal

pub observe_both-a-requires : goal.observe_both-a-requires
observe_both-a-requires g c =
    (sides_inside c.client.view_is c.manager.view_is c.requires).a

pub observe_both-b-requires : goal.observe_both-b-requires
observe_both-b-requires g c =
    (sides_inside c.client.view_is c.manager.view_is c.requires).b

pub observe_both-c-requires : goal.observe_both-c-requires
observe_both-c-requires g c =
    (sides_inside c.client.view_is c.manager.view_is c.requires).c

pub observe_both-d-requires : goal.observe_both-d-requires
observe_both-d-requires g c =
    (sides_inside c.client.view_is c.manager.view_is c.requires).d

pub observe_both-e-requires : goal.observe_both-e-requires
observe_both-e-requires g c =
    (sides_inside c.client.view_is c.manager.view_is c.requires).e

pub observe_both-a-requires-room-P-Protocol-2 : goal.observe_both-a-requires-room-P-Protocol-2
observe_both-a-requires-room-P-Protocol-2 g c κs within =
    beat_in_queue (lone head_a.the_row.mir) (layout head_a.the_row) g.row.M 9223372036854775808
    (part_small (part (part (client_side_layout g.row.C g.row.M g.row.A g.A.Allocator) 0) 0) 1 9223372036854775808
    (inner_small (client_side_layout g.row.C g.row.M g.row.A g.A.Allocator) 0 0 9223372036854775808 c.requires-raw.1.1.1.0))

pub observe_both-b-requires-room-P-Protocol-2 : goal.observe_both-b-requires-room-P-Protocol-2
observe_both-b-requires-room-P-Protocol-2 g c κs within =
    beat_in_queue (lone head_b.the_row.mir) (layout head_b.the_row) g.row.C 9223372036854775808
    (part_small (part (part (manager_side_layout g.row.C g.row.M g.row.A g.A.Allocator) 0) 1) 1 9223372036854775808
    (inner_small (manager_side_layout g.row.C g.row.M g.row.A g.A.Allocator) 0 1 9223372036854775808 c.requires-raw.1.1.1.1.0))

pub observe_both-c-requires-room-P-Protocol-2 : goal.observe_both-c-requires-room-P-Protocol-2
observe_both-c-requires-room-P-Protocol-2 g c κs within =
    beat_in_queue (lone head_c.the_row.mir) (layout head_c.the_row) g.row.M 9223372036854775808
    (part_small (part (part (client_side_layout g.row.C g.row.M g.row.A g.A.Allocator) 0) 2) 1 9223372036854775808
    (inner_small (client_side_layout g.row.C g.row.M g.row.A g.A.Allocator) 0 2 9223372036854775808 c.requires-raw.1.1.1.0))

pub observe_both-d-requires-room-P-Protocol-2 : goal.observe_both-d-requires-room-P-Protocol-2
observe_both-d-requires-room-P-Protocol-2 g c κs within =
    beat_in_queue (lone head_d.the_row.mir) (layout head_d.the_row) g.row.C 9223372036854775808
    (part_small (part (part (manager_side_layout g.row.C g.row.M g.row.A g.A.Allocator) 0) 3) 1 9223372036854775808
    (inner_small (manager_side_layout g.row.C g.row.M g.row.A g.A.Allocator) 0 3 9223372036854775808 c.requires-raw.1.1.1.1.0))

pub observe_both-e-requires-room-P-Protocol-2 : goal.observe_both-e-requires-room-P-Protocol-2
observe_both-e-requires-room-P-Protocol-2 g c κs within =
    beat_in_queue (lone head_e.the_row.mir) (layout head_e.the_row) g.row.M 9223372036854775808
    (part_small (part (part (client_side_layout g.row.C g.row.M g.row.A g.A.Allocator) 0) 4) 1 9223372036854775808
    (inner_small (client_side_layout g.row.C g.row.M g.row.A g.A.Allocator) 0 4 9223372036854775808 c.requires-raw.1.1.1.0))

pub standings_between-requires : goal.standings_between-requires
standings_between-requires g c = (
  part_small (client_side_layout g.row.C g.row.M g.row.A g.A.Allocator) 0 9223372036854775808 c.requires-raw.1.1.1.0,
  part_small (manager_side_layout g.row.C g.row.M g.row.A g.A.Allocator) 0 9223372036854775808 c.requires-raw.1.1.1.1.0,
)

pub returns : goal.returns
returns g c =
    let sides = sides_inside c.client.view_is c.manager.view_is c.requires in
    let n = c.standings_between.ensures in
    sides_met c.client.view_is c.manager.view_is _ _ _ _ _ _ _ _ _ _ _ _ _ _ _
    (let l = c.observe_both-a in ends_meet rules_a g.row.C _ _ _ _ _
    (met_of _ _ l.new.producer l.new.consumer l.result sides.a l.ensures.producer l.ensures.consumer l.ensures.clock l.ensures.count
    l.ensures.fifo l.ensures.places)
    n.a.staged n.a.most.0 (n.a.in_ring ∙ l.ensures.count ∙ sym (items_length _)) n.a.inbox n.a.most.1)
    (let l = c.observe_both-b in ends_meet rules_b g.row.M _ _ _ _ _
    (met_of _ _ l.new.producer l.new.consumer l.result sides.b l.ensures.producer l.ensures.consumer l.ensures.clock l.ensures.count
    l.ensures.fifo l.ensures.places)
    n.b.staged n.b.most.0 (n.b.in_ring ∙ l.ensures.count ∙ sym (items_length _)) n.b.inbox n.b.most.1)
    (let l = c.observe_both-c in ends_meet rules_c g.row.C _ _ _ _ _
    (met_of _ _ l.new.producer l.new.consumer l.result sides.c l.ensures.producer l.ensures.consumer l.ensures.clock l.ensures.count
    l.ensures.fifo l.ensures.places)
    n.c.staged n.c.most.0 (n.c.in_ring ∙ l.ensures.count ∙ sym (items_length _)) n.c.inbox n.c.most.1)
    (let l = c.observe_both-d in ends_meet rules_d g.row.M _ _ _ _ _
    (met_of _ _ l.new.producer l.new.consumer l.result sides.d l.ensures.producer l.ensures.consumer l.ensures.clock l.ensures.count
    l.ensures.fifo l.ensures.places)
    n.d.staged n.d.most.0 (n.d.in_ring ∙ l.ensures.count ∙ sym (items_length _)) n.d.inbox n.d.most.1)
    (let l = c.observe_both-e in ends_meet rules_e g.row.C _ _ _ _ _
    (met_of _ _ l.new.producer l.new.consumer l.result sides.e l.ensures.producer l.ensures.consumer l.ensures.clock l.ensures.count
    l.ensures.fifo l.ensures.places)
    n.e.staged n.e.most.0 (n.e.in_ring ∙ l.ensures.count ∙ sym (items_length _)) n.e.inbox n.e.most.1)
