use denote.Memory.{lone}
use denote.Param.{layout, param, number, copied}
use Rattle.tl_ring.specs.contracts.ends.SendEnd.{the_row}
use Rattle.tl_ring.proofs.FieldSizes.{inner_small, part_small, beat_in_queue}
use Rattle.speed.proofs.tl_ring++ends++SendEnd+Destruct.drop.Goals as goal

pub drop-requires : goal.drop-requires
drop-requires g c = part_small
    (layout (the_row (param 0 g.row.K) (param 1 (number g.row.W)) (param 2 (number g.row.V)) (param 3 g.row.A) (copied 4 g.row.K-Head) g.K.Channel
    g.K.Head.Clone g.K.Head.Eq g.K.Head.PartialEq g.K.Head.Default g.A.Allocator)) 0 9223372036854775808 c.requires.1.1.1.1.1

pub drop-requires-2-room-P-Protocol-2 : goal.drop-requires-2-room-P-Protocol-2
drop-requires-2-room-P-Protocol-2 g c κs within = beat_in_queue (lone g.row.K-Head.mir) (layout g.row.K-Head) g.row.V 9223372036854775808
    (inner_small (layout (the_row (param 0 g.row.K) (param 1 (number g.row.W)) (param 2 (number g.row.V)) (param 3 g.row.A) (copied 4 g.row.K-Head)
    g.K.Channel g.K.Head.Clone g.K.Head.Eq g.K.Head.PartialEq g.K.Head.Default g.A.Allocator)) 0 1 9223372036854775808 c.requires.1.1.1.1.1)
