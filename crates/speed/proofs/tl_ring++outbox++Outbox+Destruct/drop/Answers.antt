use denote.Param.{layout, param, number, copied}
use Rattle.tl_ring.specs.contracts.outbox.Outbox.{the_row}
use Rattle.tl_ring.proofs.FieldSizes.{part_small}
use Rattle.speed.proofs.tl_ring++outbox++Outbox+Destruct.drop.Goals as goal

pub drop-requires : goal.drop-requires
drop-requires g c = part_small
    (layout (the_row (param 0 g.row.K) (param 1 (number g.row.W)) (param 2 (number g.row.V)) (copied 3 g.row.K-Head) g.K.Channel
    g.K.Head.PartialEq g.K.Head.Default)) 0 9223372036854775808 c.requires.1.1.1.1
