use Rattle.tl_stream.proofs.Names.{Err, ap}
use Rattle.tl_stream.proofs.Between.{held_size}
use Rattle.tl_stream.proofs.Consuming.{beginning_widths, begins, behind, goes-on, consumed, read-through, refused-read}
use Rattle.tl_stream.proofs.ToRead.{part-short, smaller}
use Rattle.tl_stream.proofs.later_lines.read_pieces.Goals as goal

pub use_header-requires : goal.use_header-requires
use_header-requires g c = (c.requires.2.taken.from, c.requires.2.taken.to)

pub returns-in-Err : goal.returns-in-Err
returns-in-Err g c = c.in-Err.ensures _ _ _ _ c.requires.2 c.requires.3

pub pieces-init : goal.pieces-init
pieces-init g c = goes-on g.L.BeatConsumer.HasConsumed g.L.BeatConsumer.ConsumesOn _ c.args.consumer.now _ _ _ c.args.lines.now c.use_header.new.input c.args.consumer.now
    (beginning_widths g.L.BeatConsumer.HasConsumed c.requires) (begins g.L.BeatConsumer.HasConsumed g.L.BeatConsumer.ConsumesOn c.requires c.in_default.ensures)

pub returns-in-Ok-false : goal.returns-in-Ok-false
returns-in-Ok-false g c =
    read-through (behind c.pieces.invariant.0 c.in-Ok-false.ensures.read) c.in-Ok-false.ensures.read c.in-Ok-false.field-0-test

pub returns-in-Err-read_on : goal.returns-in-Err-read_on
returns-in-Err-read_on g c = c.in-Err-read_on.ensures.read _ _ c.pieces.invariant.0.discarded c.pieces.invariant.0.between

pub returns-in-Err-consume : goal.returns-in-Err-consume
returns-in-Err-consume g c = tt

pub returns-in-Err-refill : goal.returns-in-Err-refill
returns-in-Err-refill g c =
    let b = (behind c.pieces.invariant.0 c.in-Ok-true.ensures.read).between in
    refused-read _ _ c.refill.new.self c.in-Err-refill.fault c.in-Err-refill.ensures.kinds
    (λ is. c.in-Err-refill.ensures.long _ b.used b.taken (ap (λ fault. Err fault) is))

pub pieces-smaller : goal.pieces-smaller
pieces-smaller g c =
    let r = c.in-Ok-true.ensures.read in
    let b = (behind c.pieces.invariant.0 r).between in
    let input = c.read_on.new.input in
    let kept = part-short _ _ _ _ (held_size input b.taken.from b.taken.to) r.rest.short b.taken.room in
    smaller c.pieces.input input c.refill.new.self c.in-Ok-true.field-0 r.total r.to r.buffer r.full c.in-Ok-true.field-0-test
    c.in_default-refill.ensures.more (λ past. c.in_default-refill.ensures.grown past kept)
    (c.in_default-refill.ensures.ok _ b.used b.taken).few

pub pieces-preserved : goal.pieces-preserved
pieces-preserved g c =
    let b = behind c.pieces.invariant.0 c.in-Ok-true.ensures.read in
    let went = c.remove_front.ensures in
    goes-on g.L.BeatConsumer.HasConsumed g.L.BeatConsumer.ConsumesOn _ c.args.consumer.now _ _ _ c.remove_front.new.self c.refill.new.self c.consume.new.self (beginning_widths g.L.BeatConsumer.HasConsumed c.requires)
    (consumed b c.remove_front.new.self c.refill.new.self c.consume.new.self c.in-Ok.counts went.version went.told c.in-Ok.ensures.consumed c.in_default-refill.ensures.size
    (λ more grown few. c.in-Ok.ensures.on c.args.lines.now.version b.discarded b.has_consumed c.remove_front.new.self.script more went.left grown few)
    (c.in_default-refill.ensures.ok _ b.between.used b.between.taken))

pub refill-requires : goal.refill-requires
refill-requires g c =
    let t = (behind c.pieces.invariant.0 c.in-Ok-true.ensures.read).between.taken in record { from = t.from; to = t.to; few = t.few }
