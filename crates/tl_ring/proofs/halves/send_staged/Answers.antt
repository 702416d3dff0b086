use denote.Memory.{lone}
use Rattle.std.proofs.Common.{lit<}
use Rattle.tl_ring.proofs.Names.{refl, ap, ◌∙◌, take, ◌++◌, All-drop, IsLawfulBeat}
use Rattle.tl_ring.proofs.EndSteps.{sends_passed}
use Rattle.tl_ring.proofs.Times.{items_append, items_stamped}
use Rattle.tl_ring.specs.Halves.{items, all_stamped}
use Rattle.rtrb.specs.Ring as rtrb
use denote.Param.{layout, param, number, copied}
use Rattle.tl_ring.specs.contracts.outbox.Outbox.{the_row}
use Rattle.tl_ring.proofs.FieldSizes.{part_small, beat_in_queue}
use Rattle.tl_ring.proofs.halves.send_staged.Goals as goal

pub invariant_of-outbox : goal.invariant_of-outbox
invariant_of-outbox g c =
    rw c.push_queue.ensures.queue (All-drop (λ b. IsLawfulBeat g.K.Channel.rules b) c.push_queue.result _ c.outbox.invariant)

pub push_queue-requires-room-T-Clone : goal.push_queue-requires-room-T-Clone
push_queue-requires-room-T-Clone g c κs within =
    let outbox = layout (the_row (param 0 g.row.K) (param 1 (number g.row.W)) (param 2 (number g.row.V)) (copied 4 g.row.K-Head)
    g.K.Channel g.K.Head.PartialEq g.K.Head.Default) in
    let queue = part_small outbox 1 9223372036854775808 c.requires-raw.1.1.1.1.1.0 in
    beat_in_queue (lone g.row.K-Head.mir) (layout g.row.K-Head) g.row.V 9223372036854775808 queue

pub push_queue-requires-room-P-Protocol : goal.push_queue-requires-room-P-Protocol
push_queue-requires-room-P-Protocol g c κs within = lit< tt

pub push_queue-requires-room-P-Protocol-2 : goal.push_queue-requires-room-P-Protocol-2
push_queue-requires-room-P-Protocol-2 g c κs within = push_queue-requires-room-T-Clone g c κs within

pub returns : goal.returns
returns g c =
    let p = c.push_queue.ensures in
    let before = rtrb.sent c.args.producer.now in
    let moved = take c.push_queue.result c.outbox.inside.stage in
    let sent = ap items p.sent ∙ items_append before (all_stamped c.args.clock.now.time moved) ∙
    ap (λ l. items before ++ l) (items_stamped c.args.clock.now.time moved) in
    rw (← c.outbox.view_is) (record {
      least = p.least;
      most = p.most;
      pushed = record {
        ring = p.ring;
        same_converter = refl {a = c.outbox.inside.converter};
        same_closed = refl {a = c.outbox.inside.closed};
        stage = p.queue;
        more_sent = sent;
        known = p.known;
      };
      times = p.sent;
      stands = λ x h. sends_passed g.K.Channel.rules g.met.K.Channel.partial_masked c.push_queue.result _ _ x refl p.queue sent p.ring.1 refl h;
    })
