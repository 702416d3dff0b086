use Rattle.tl_ring.proofs.Names.{refl}
use Rattle.tl_ring.proofs.Boxes.{has_new}
use denote.Memory.{lone}
use denote.Param.{layout, param, number, copied}
use Rattle.tl_ring.specs.contracts.outbox.Outbox.{the_row}
use Rattle.tl_ring.proofs.FieldSizes.{part_small, beat_in_queue}
use Rattle.tl_ring.proofs.outbox.Outbox.new.Goals as goal

pub returns : goal.returns
returns g c = record {
  stands = λ near far. has_new g.K.Channel.rules _ near far c.new.ensures c.new-2.ensures refl;
  ready = (c.new-2.ensures, refl);
}

pub new-requires : goal.new-requires
new-requires g c = part_small (layout (the_row (param 0 g.row.K) (param 1 (number g.row.W)) (param 2 (number g.row.V)) (copied 3 g.row.K-Head)
    g.K.Channel g.K.Head.PartialEq g.K.Head.Default)) 0 9223372036854775808 c.requires-raw.1.1.1.1

pub new-requires-2 : goal.new-requires-2
new-requires-2 g c = part_small (layout (the_row (param 0 g.row.K) (param 1 (number g.row.W)) (param 2 (number g.row.V)) (copied 3 g.row.K-Head)
    g.K.Channel g.K.Head.PartialEq g.K.Head.Default)) 1 9223372036854775808 c.requires-raw.1.1.1.1

pub new-requires-2-room-T-Default : goal.new-requires-2-room-T-Default
new-requires-2-room-T-Default g c κs within =
    beat_in_queue (lone g.row.K-Head.mir) (layout g.row.K-Head) g.row.V 9223372036854775808
    (part_small (layout (the_row (param 0 g.row.K) (param 1 (number g.row.W)) (param 2 (number g.row.V)) (copied 3 g.row.K-Head) g.K.Channel
    g.K.Head.PartialEq g.K.Head.Default)) 1 9223372036854775808 c.requires-raw.1.1.1.1)
