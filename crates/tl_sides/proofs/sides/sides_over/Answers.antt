use Rattle.std.proofs.Common.{lit<}
use Rattle.tl_sides.proofs.Layouts.{client_side_layout, manager_side_layout, part_small}
use Rattle.tl_sides.proofs.NewEnds.{new_sides}
use Rattle.tl_sides.proofs.sides.sides_over.Goals as goal

-- each port, and each intake, is a part of its side
pub with_book-requires : goal.with_book-requires
with_book-requires g c =
    let row = client_side_layout g.row.C g.row.M g.row.A g.A.Allocator in
    let given = c.requires-raw.1.1.1.1.1.1.1.1.1.1.1.1.1 in
    (given.0, part_small row 0 9223372036854775808 given.1.1.0)

pub from_half-requires : goal.from_half-requires
from_half-requires g c =
    let row = client_side_layout g.row.C g.row.M g.row.A g.A.Allocator in
    let given = c.requires-raw.1.1.1.1.1 in
    (given.0, (lit< tt, part_small row 2 9223372036854775808 given.1.1.1.1.1.1.1.1.1.1.0))

pub from_half-requires-2 : goal.from_half-requires-2
from_half-requires-2 g c =
    let row = client_side_layout g.row.C g.row.M g.row.A g.A.Allocator in
    let given = c.requires-raw.1.1.1.1.1.1.1.1.1 in
    (given.0, (lit< tt, part_small row 4 9223372036854775808 given.1.1.1.1.1.1.0))

pub with_book-requires-2 : goal.with_book-requires-2
with_book-requires-2 g c =
    let row = manager_side_layout g.row.C g.row.M g.row.A g.A.Allocator in
    let given = c.requires-raw.1.1.1.1.1.1.1.1.1.1.1.1.1.1 in
    (given.0, part_small row 0 9223372036854775808 given.1.1)

pub from_half-requires-3 : goal.from_half-requires-3
from_half-requires-3 g c =
    let row = manager_side_layout g.row.C g.row.M g.row.A g.A.Allocator in
    let given = c.requires-raw.1.1.1 in
    (given.0, (lit< tt, part_small row 1 9223372036854775808 given.1.1.1.1.1.1.1.1.1.1.1.1.1))

pub from_half-requires-4 : goal.from_half-requires-4
from_half-requires-4 g c =
    let row = manager_side_layout g.row.C g.row.M g.row.A g.A.Allocator in
    let given = c.requires-raw.1.1.1.1.1.1.1 in
    (given.0, (lit< tt, part_small row 3 9223372036854775808 given.1.1.1.1.1.1.1.1.1))

pub from_half-requires-5 : goal.from_half-requires-5
from_half-requires-5 g c =
    let row = manager_side_layout g.row.C g.row.M g.row.A g.A.Allocator in
    let given = c.requires-raw.1.1.1.1.1.1.1.1.1.1.1 in
    (given.0, (lit< tt, part_small row 5 9223372036854775808 given.1.1.1.1.1))

pub returns : goal.returns
returns g c = λ size near far rings knows_client knows_manager.
    let parts = c.args.parts in
    let client = c.with_book.ensures in
    let manager = c.with_book-2.ensures in
    new_sides size parts.0.0 parts.1.0 parts.2.0 parts.3.0 parts.4.0
    c.from_half-3.result.half c.from_half.result.half c.from_half-4.result.half c.from_half-2.result.half c.from_half-5.result.half
    (rw c.from_half-3.ensures rings.0, rw c.from_half.ensures rings.1, rw c.from_half-4.ensures rings.2, rw c.from_half-2.ensures rings.3, rw c.from_half-5.ensures rings.4)
    c.with_book.result c.with_book-2.result (client.new near far knows_client) (manager.new near far knows_manager)
    (client.ready_a, manager.ready_b, client.ready_c, manager.ready_d, client.ready_e)
    (manager.empty_a, client.empty_b, manager.empty_c, client.empty_d, manager.empty_e)
