use denote.Memory.{lone}
use Rattle.tl_ring.proofs.Names.{All-append, All-take, All-drop, IsLawfulBeat}
use denote.Param.{layout, param, number, copied}
use Rattle.tl_ring.specs.contracts.inbox.Inbox.{the_row}
use Rattle.tl_ring.proofs.FieldSizes.{part_small, beat_in_queue}
use Rattle.tl_ring.proofs.ring.fetch.Goals as goal

pub read_queue-requires-room-T-Clone : goal.read_queue-requires-room-T-Clone
read_queue-requires-room-T-Clone g c κs within =
    let row = layout (the_row (param 0 g.row.K) (param 1 (number g.row.V)) (copied 2 g.row.K-Head) g.K.Channel g.K.Head.PartialEq g.K.Head.Default) in
    beat_in_queue (lone g.row.K-Head.mir) (layout g.row.K-Head) g.row.V 9223372036854775808
    (part_small row 0 9223372036854775808 c.requires-raw.1.1.1.1.1)

pub read_queue-requires-room-T-Default : goal.read_queue-requires-room-T-Default
read_queue-requires-room-T-Default g c κs within = read_queue-requires-room-T-Clone g c κs within

pub invariant_of-ring : goal.invariant_of-ring
invariant_of-ring g c =
    let ring = All-drop (λ b. IsLawfulBeat g.K.Channel.rules b) c.read_queue.result c.ring.inside.buffer.items c.ring.invariant.2 in
    rw c.read_queue.ensures.ring (c.ring.invariant.0, c.ring.invariant.1, ring)

pub invariant_of-inbox : goal.invariant_of-inbox
invariant_of-inbox g c =
    let moved = All-take (λ b. IsLawfulBeat g.K.Channel.rules b) c.read_queue.result c.ring.inside.buffer.items c.ring.invariant.2 in
    rw c.read_queue.ensures.queue (All-append (λ b. IsLawfulBeat g.K.Channel.rules b) c.inbox.inside.queue _ c.inbox.invariant moved)

pub returns : goal.returns
returns g c =
    rw (← c.ring.view_is, ← c.inbox.view_is) (record {
      count = c.read_queue.ensures.count;
      ring = c.read_queue.ensures.ring;
      inbox = c.read_queue.ensures.queue;
      most = c.read_queue.ensures.most;
    })
