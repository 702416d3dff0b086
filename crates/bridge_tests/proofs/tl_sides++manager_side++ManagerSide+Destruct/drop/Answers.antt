use denote.Memory.{lone}
use denote.Param.{layout, param, number}
use Rattle.tl_msg.specs.contracts.head.HeadB as head_b
use Rattle.tl_msg.specs.contracts.head.HeadD as head_d
use Rattle.tl_sides.specs.contracts.manager_side.ManagerSide.{the_row}
use Rattle.tl_ring.proofs.FieldSizes.{part, part_small, inner_small, beat_in_queue}
use Rattle.bridge_tests.proofs.tl_sides++manager_side++ManagerSide+Destruct.drop.Goals as goal

pub drop-requires : goal.drop-requires
drop-requires g c = part_small (layout (the_row (param 0 (number g.row.C)) (param 1 (number g.row.M)) (param 2 g.row.A) g.A.Allocator)) 0
    9223372036854775808 c.requires.1.1.1

pub drop-requires-2 : goal.drop-requires-2
drop-requires-2 g c = part_small (layout (the_row (param 0 (number g.row.C)) (param 1 (number g.row.M)) (param 2 g.row.A) g.A.Allocator)) 1
    9223372036854775808 c.requires.1.1.1

pub drop-requires-3-room-P-Protocol-2 : goal.drop-requires-3-room-P-Protocol-2
drop-requires-3-room-P-Protocol-2 g c κs within =
    let side = layout (the_row (param 0 (number g.row.C)) (param 1 (number g.row.M)) (param 2 g.row.A) g.A.Allocator) in
    beat_in_queue (lone head_b.the_row.mir) (layout head_b.the_row) g.row.C 9223372036854775808
    (part_small (part (part side 0) 1) 1 9223372036854775808 (inner_small side 0 1 9223372036854775808 c.requires.1.1.1))

pub drop-requires-4 : goal.drop-requires-4
drop-requires-4 g c = part_small (layout (the_row (param 0 (number g.row.C)) (param 1 (number g.row.M)) (param 2 g.row.A) g.A.Allocator)) 3
    9223372036854775808 c.requires.1.1.1

pub drop-requires-5-room-P-Protocol-2 : goal.drop-requires-5-room-P-Protocol-2
drop-requires-5-room-P-Protocol-2 g c κs within =
    let side = layout (the_row (param 0 (number g.row.C)) (param 1 (number g.row.M)) (param 2 g.row.A) g.A.Allocator) in
    beat_in_queue (lone head_d.the_row.mir) (layout head_d.the_row) g.row.C 9223372036854775808
    (part_small (part (part side 0) 3) 1 9223372036854775808 (inner_small side 0 3 9223372036854775808 c.requires.1.1.1))

pub drop-requires-6 : goal.drop-requires-6
drop-requires-6 g c = part_small (layout (the_row (param 0 (number g.row.C)) (param 1 (number g.row.M)) (param 2 g.row.A) g.A.Allocator)) 5
    9223372036854775808 c.requires.1.1.1
