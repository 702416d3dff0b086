use denote.Memory.{lone}
use denote.Param.{layout, param, number, copied}
use Rattle.tl_convert.proofs.FeedStep.{is-handed}
use Rattle.tl_ring.specs.contracts.outbox.Outbox.{the_row}
use Rattle.tl_ring.proofs.Boxes.{has_offered}
use Rattle.tl_ring.proofs.FieldSizes.{part_small, beat_in_queue}
use Rattle.tl_ring.proofs.outbox.Outbox.offer_at.Goals as goal

pub stage_beat-requires : goal.stage_beat-requires
stage_beat-requires g c =
    let place = rw (← c.self.view_is) at c.requires.3 in
    let ready = rw (← c.self.view_is) at c.requires.2 in
    let row = layout (the_row (param 0 g.row.K) (param 1 (number g.row.W)) (param 2 (number g.row.V)) (copied 3 g.row.K-Head) g.K.Channel
    g.K.Head.PartialEq g.K.Head.Default) in
    let whole = c.requires-raw.1.1.1.1.0 in
    let stage = part_small row 1 9223372036854775808 whole in
    let beat = beat_in_queue (lone g.row.K-Head.mir) (layout g.row.K-Head) g.row.V 9223372036854775808 stage in
    (part_small row 0 9223372036854775808 whole, (c.requires-raw.1.1.1.1.1.0, (stage, (beat, (c.requires.0, c.requires.1, place, ready.0)))))

pub returns-clause-accepted : goal.returns-clause-accepted
returns-clause-accepted g c = λ bs homes sent h.
    let stands = rw (← c.self.view_is) at h in
    let ready = rw (← c.self.view_is) at c.requires.2 in
    let staged = c.stage_beat.ensures in
    let converts = staged.stands bs homes stands.converter in
    has_offered g.K.Channel.rules _ bs homes sent c.args.beat.now c.args.home c.stage_beat.new.converter c.stage_beat.new.stage staged.beat
    staged.home (is-handed converts.handed) ready.0 ready.1 converts (staged.due bs homes stands.converter) stands
