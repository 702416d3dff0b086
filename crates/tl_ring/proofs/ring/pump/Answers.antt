use denote.Memory.{lone}
use Rattle.tl_ring.proofs.Names.{refl, All-append, All-take, All-drop, IsLawfulBeat}
use denote.Param.{layout, param, number, copied}
use Rattle.tl_ring.specs.contracts.outbox.Outbox.{the_row}
use Rattle.tl_ring.proofs.FieldSizes.{part_small, beat_in_queue}
use Rattle.tl_ring.proofs.ring.pump.Goals as goal

pub write_queue-requires : goal.write_queue-requires
write_queue-requires g c =
    let row = layout (the_row (param 0 g.row.K) (param 1 (number g.row.W)) (param 2 (number g.row.V)) (copied 3 g.row.K-Head)
    g.K.Channel g.K.Head.PartialEq g.K.Head.Default) in
    part_small row 1 9223372036854775808 c.requires-raw.1.1.1.1.1.0

pub invariant_of-outbox : goal.invariant_of-outbox
invariant_of-outbox g c =
    rw c.write_queue.ensures.queue (All-drop (λ b. IsLawfulBeat g.K.Channel.rules b) c.write_queue.result _ c.outbox.invariant)

pub invariant_of-ring : goal.invariant_of-ring
invariant_of-ring g c =
    let moved = All-take (λ b. IsLawfulBeat g.K.Channel.rules b) c.write_queue.result _ c.outbox.invariant in
    let ring = All-append (λ b. IsLawfulBeat g.K.Channel.rules b) c.ring.inside.buffer.items _ c.ring.invariant.2 moved in
    rw c.write_queue.ensures.ring (c.ring.invariant.0, c.ring.invariant.1, ring)

pub write_queue-requires-room-T-Clone : goal.write_queue-requires-room-T-Clone
write_queue-requires-room-T-Clone g c κs within =
    let outbox = layout (the_row (param 0 g.row.K) (param 1 (number g.row.W)) (param 2 (number g.row.V)) (copied 4 g.row.K-Head)
    g.K.Channel g.K.Head.PartialEq g.K.Head.Default) in
    let queue = part_small outbox 1 9223372036854775808 c.requires-raw.1.1.1.1.1.0 in
    beat_in_queue (lone g.row.K-Head.mir) (layout g.row.K-Head) g.row.V 9223372036854775808 queue

pub returns : goal.returns
returns g c =
    rw (← c.outbox.view_is, ← c.ring.view_is) (record {
      count = c.write_queue.ensures.count;
      outbox = rw c.write_queue.ensures.queue refl;
      ring = c.write_queue.ensures.ring;
      most = c.write_queue.ensures.most;
    })
