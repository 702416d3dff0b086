use Rattle.tl_sides.proofs.Layouts.{manager_layout, part_small}
use Rattle.tl_sides.proofs.manager_port.ManagerPort.with_book.Goals as goal

pub new-requires : goal.new-requires
new-requires g c = part_small (manager_layout g.row.C g.row.M g.row.A g.A.Allocator) 0 9223372036854775808 c.requires-raw.1.1.1.1

pub new-requires-2 : goal.new-requires-2
new-requires-2 g c = part_small (manager_layout g.row.C g.row.M g.row.A g.A.Allocator) 1 9223372036854775808 c.requires-raw.1.1.1.1

pub new-requires-3 : goal.new-requires-3
new-requires-3 g c = part_small (manager_layout g.row.C g.row.M g.row.A g.A.Allocator) 2 9223372036854775808 c.requires-raw.1.1.1.1

pub new-requires-4 : goal.new-requires-4
new-requires-4 g c = part_small (manager_layout g.row.C g.row.M g.row.A g.A.Allocator) 3 9223372036854775808 c.requires-raw.1.1.1.1

pub new-requires-5 : goal.new-requires-5
new-requires-5 g c = part_small (manager_layout g.row.C g.row.M g.row.A g.A.Allocator) 4 9223372036854775808 c.requires-raw.1.1.1.1

pub returns-clause-new : goal.returns-clause-new
returns-clause-new g c = λ client manager knows. record {
  b = c.new-2.ensures.stands manager client;
  d = c.new-4.ensures.stands manager client;
  book = knows;
}
