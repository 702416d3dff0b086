use denote.Memory.{lone}
use denote.Param.{layout, param, number}
use Rattle.tl_msg.specs.contracts.head.HeadA as head_a
use Rattle.tl_msg.specs.contracts.head.HeadC as head_c
use Rattle.tl_msg.specs.contracts.head.HeadE as head_e
use Rattle.tl_sides.specs.contracts.client_side.ClientSide.{the_row}
use Rattle.tl_ring.proofs.FieldSizes.{part, part_small, inner_small, beat_in_queue}
use Rattle.bridge_tests.proofs.tl_sides++client_side++ClientSide+Destruct.drop.Goals as goal

pub drop-requires : goal.drop-requires
drop-requires g c = part_small (layout (the_row (param 0 (number g.row.C)) (param 1 (number g.row.M)) (param 2 g.row.A) g.A.Allocator)) 0
    9223372036854775808 c.requires.1.1.1

pub drop-requires-2-room-P-Protocol-2 : goal.drop-requires-2-room-P-Protocol-2
drop-requires-2-room-P-Protocol-2 g c κs within =
    let side = layout (the_row (param 0 (number g.row.C)) (param 1 (number g.row.M)) (param 2 g.row.A) g.A.Allocator) in
    beat_in_queue (lone head_a.the_row.mir) (layout head_a.the_row) g.row.M 9223372036854775808
    (part_small (part (part side 0) 0) 1 9223372036854775808 (inner_small side 0 0 9223372036854775808 c.requires.1.1.1))

pub drop-requires-3 : goal.drop-requires-3
drop-requires-3 g c = part_small (layout (the_row (param 0 (number g.row.C)) (param 1 (number g.row.M)) (param 2 g.row.A) g.A.Allocator)) 2
    9223372036854775808 c.requires.1.1.1

pub drop-requires-4-room-P-Protocol-2 : goal.drop-requires-4-room-P-Protocol-2
drop-requires-4-room-P-Protocol-2 g c κs within =
    let side = layout (the_row (param 0 (number g.row.C)) (param 1 (number g.row.M)) (param 2 g.row.A) g.A.Allocator) in
    beat_in_queue (lone head_c.the_row.mir) (layout head_c.the_row) g.row.M 9223372036854775808
    (part_small (part (part side 0) 2) 1 9223372036854775808 (inner_small side 0 2 9223372036854775808 c.requires.1.1.1))

pub drop-requires-5 : goal.drop-requires-5
drop-requires-5 g c = part_small (layout (the_row (param 0 (number g.row.C)) (param 1 (number g.row.M)) (param 2 g.row.A) g.A.Allocator)) 4
    9223372036854775808 c.requires.1.1.1

pub drop-requires-6-room-P-Protocol-2 : goal.drop-requires-6-room-P-Protocol-2
drop-requires-6-room-P-Protocol-2 g c κs within =
    let side = layout (the_row (param 0 (number g.row.C)) (param 1 (number g.row.M)) (param 2 g.row.A) g.A.Allocator) in
    beat_in_queue (lone head_e.the_row.mir) (layout head_e.the_row) g.row.M 9223372036854775808
    (part_small (part (part side 0) 4) 1 9223372036854775808 (inner_small side 0 4 9223372036854775808 c.requires.1.1.1))
