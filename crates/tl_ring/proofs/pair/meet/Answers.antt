use Rattle.tl_ring.proofs.Names.{◌≤◌, sym, ◌∙◌, length, arith, STAGE_CAPACITY}
use Rattle.tl_ring.specs.Ends.{sending_of, taking_of}
use Rattle.tl_ring.proofs.EndSteps.{meeting_of}
use Rattle.tl_ring.proofs.Times.{items_length}
use denote.Memory.{lone}
use denote.Param.{layout, param, number, copied}
use Rattle.tl_ring.specs.contracts.ends.SendEnd as send
use Rattle.tl_ring.specs.contracts.ends.TakeEnd as take
use Rattle.tl_ring.proofs.FieldSizes.{part_small, inner_small, beat_in_queue}
use Rattle.tl_ring.proofs.pair.meet.Goals as goal

pub observe_both-in_ring-requires-room-P-Protocol : goal.observe_both-in_ring-requires-room-P-Protocol
observe_both-in_ring-requires-room-P-Protocol g c κs within = omega arith

pub observe_both-in_ring-requires-room-P-Protocol-2 : goal.observe_both-in_ring-requires-room-P-Protocol-2
observe_both-in_ring-requires-room-P-Protocol-2 g c κs within =
    beat_in_queue (lone g.row.K-Head.mir) (layout g.row.K-Head) g.row.V 9223372036854775808
    (inner_small (layout (take.the_row (param 0 g.row.K) (param 1 (number g.row.W)) (param 2 (number g.row.V)) (param 3 g.row.A)
    (copied 4 g.row.K-Head) g.K.Channel g.K.Head.Clone g.K.Head.Eq g.K.Head.PartialEq g.K.Head.Default g.A.Allocator)) 0 0 9223372036854775808
    c.requires-raw.1.1.1.1.1.1.0)

pub between-requires : goal.between-requires
between-requires g c = (
  part_small (layout (send.the_row (param 0 g.row.K) (param 1 (number g.row.W)) (param 2 (number g.row.V)) (param 3 g.row.A)
      (copied 4 g.row.K-Head) g.K.Channel g.K.Head.Clone g.K.Head.Eq g.K.Head.PartialEq g.K.Head.Default g.A.Allocator)) 0 9223372036854775808
      c.requires-raw.1.1.1.1.1.0,
  part_small (layout (take.the_row (param 0 g.row.K) (param 1 (number g.row.W)) (param 2 (number g.row.V)) (param 3 g.row.A)
      (copied 4 g.row.K-Head) g.K.Channel g.K.Head.Clone g.K.Head.Eq g.K.Head.PartialEq g.K.Head.Default g.A.Allocator)) 0 9223372036854775808
      c.requires-raw.1.1.1.1.1.1.0,
)

pub returns : goal.returns
returns g c =
    let seen = c.observe_both-in_ring in
    let stand = c.between.ensures in
    let pair = rw (← c.send.view_is, ← c.take.view_is) at c.requires in
    let s = sending_of c.send.inside.outbox c.send.inside.producer in
    let t = taking_of c.take.inside.inbox c.take.inside.intake.half in
    let held : length c.take.inside.inbox ≤ STAGE_CAPACITY = omega (arith, stand.inbox, stand.most) in
    let meeting = meeting_of g.K.Channel.rules s t seen.new.producer seen.new.consumer seen.result pair seen.ensures.producer
    seen.ensures.consumer seen.ensures.clock seen.ensures.count seen.ensures.fifo seen.ensures.places held in
    rw (← c.send.view_is, ← c.take.view_is) (record {
      met = meeting.0;
      staged = stand.staged;
      in_ring = stand.in_ring ∙ seen.ensures.count ∙ sym (items_length _);
      inbox = stand.inbox;
      most = stand.most;
      meets = meeting.1;
    })
