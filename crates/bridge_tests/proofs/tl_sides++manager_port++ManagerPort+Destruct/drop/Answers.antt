use denote.Param.{layout, param, number}
use Rattle.tl_sides.specs.contracts.manager_port.ManagerPort.{the_row}
use Rattle.tl_ring.proofs.FieldSizes.{part_small}
use Rattle.bridge_tests.proofs.tl_sides++manager_port++ManagerPort+Destruct.drop.Goals as goal

pub drop-requires : goal.drop-requires
drop-requires g c = part_small (layout (the_row (param 0 (number g.row.C)) (param 1 (number g.row.M)) (param 2 g.row.A) g.A.Allocator)) 1
    9223372036854775808 c.requires.1.1.1

pub drop-requires-2 : goal.drop-requires-2
drop-requires-2 g c = part_small (layout (the_row (param 0 (number g.row.C)) (param 1 (number g.row.M)) (param 2 g.row.A) g.A.Allocator)) 3
    9223372036854775808 c.requires.1.1.1

pub drop-requires-3 : goal.drop-requires-3
drop-requires-3 g c = part_small (layout (the_row (param 0 (number g.row.C)) (param 1 (number g.row.M)) (param 2 g.row.A) g.A.Allocator)) 5
    9223372036854775808 c.requires.1.1.1
