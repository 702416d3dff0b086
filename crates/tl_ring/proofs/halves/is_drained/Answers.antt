use Rattle.tl_ring.proofs.Names.{◌≤◌, length, refl, sym, ap, ◌∙◌, arith, lit<, STAGE_CAPACITY}
use Rattle.tl_ring.proofs.Times.{items_append, items_length}
use Rattle.tl_ring.specs.Halves.{items}
use Rattle.tl_ring.specs.Ends.{LookedAfter, taking_of}
use Rattle.tl_ring.proofs.EndSteps.{shown_of}
use denote.Param.{layout, param, number, copied}
use Rattle.tl_ring.specs.contracts.inbox.Inbox.{the_row}
use Rattle.tl_ring.proofs.FieldSizes.{part_small, beat_in_queue}
use Rattle.tl_ring.proofs.Moves.{none_in_two}
use denote.Memory.{lone}
use Rattle.tl_ring.proofs.halves.is_drained.Given.{Over}
use Rattle.tl_ring.proofs.halves.is_drained.Goals as goal

pub slots_after-in_ring-requires-room-P-Protocol : goal.slots_after-in_ring-requires-room-P-Protocol
slots_after-in_ring-requires-room-P-Protocol g c = λ κs within. lit< tt

pub slots_after-in_ring-requires-room-P-Protocol-2 : goal.slots_after-in_ring-requires-room-P-Protocol-2
slots_after-in_ring-requires-room-P-Protocol-2 g c =
    λ κs within. beat_in_queue (lone g.row.K-Head.mir) (layout g.row.K-Head) g.row.V 9223372036854775808
    (part_small (layout (the_row (param 0 g.row.K) (param 1 (number g.row.V)) (copied 2 g.row.K-Head) g.K.Channel g.K.Head.PartialEq
    g.K.Head.Default)) 0 9223372036854775808 c.requires-raw.1.1.1.1.1.1.0)

looked : (g : Over) (c : goal.After-len-waiting g) →
    LookedAfter (record { finished = c.receipt.inside.finished }) (taking_of c.args.inbox.now c.args.intake.now.half)
    (record { finished = c.slots_after-in_ring.new.finished }) (taking_of c.args.inbox.now c.slots_after-in_ring.new.self)
looked g c =
    let after = c.slots_after-in_ring.ensures in
    record {
      receipt = after.finished.0;
      take = after.looked.0;
      same_sent = ap items after.finished.1;
      same_inbox = refl;
      same_received = ap items after.looked.1;
      same_received_times = after.looked.1;
      same_clock = after.clock;
      ring = sym (items_append _ _) ∙ ap items after.fifo;
    }

pub returns-clause-looked : goal.returns-clause-looked
returns-clause-looked g c = rw (← c.receipt.view_is) (looked g c)

pub returns-clause-drained : goal.returns-clause-drained
returns-clause-drained g c = none_in_two c.args.inbox.now _ c.len-waiting.result c.slots_after-in_ring.result c.len-waiting.ensures.count
    (c.slots_after-in_ring.ensures.value ∙ sym (items_length _))

pub returns-clause-shown : goal.returns-clause-shown
returns-clause-shown g c =
    let held : length c.args.inbox.now ≤ STAGE_CAPACITY = omega (arith, c.len-waiting.ensures.count, c.len-waiting.ensures.most) in
    rw (← c.receipt.view_is) (λ x taken shows takes.
    shown_of g.K.Channel.rules _ _ _ _ x taken (rw (← c.receipt.view_is) at c.requires) (looked g c) held shows takes)
