use Rattle.tl_sides.proofs.Layouts.{client_layout, part_small}
use Rattle.tl_sides.proofs.client_port.ClientPort.with_book.Goals as goal

pub new-requires : goal.new-requires
new-requires g c = part_small (client_layout g.row.C g.row.M g.row.A g.A.Allocator) 0 9223372036854775808 c.requires-raw.1.1.1.1

pub new-requires-2 : goal.new-requires-2
new-requires-2 g c = part_small (client_layout g.row.C g.row.M g.row.A g.A.Allocator) 1 9223372036854775808 c.requires-raw.1.1.1.1

pub new-requires-3 : goal.new-requires-3
new-requires-3 g c = part_small (client_layout g.row.C g.row.M g.row.A g.A.Allocator) 2 9223372036854775808 c.requires-raw.1.1.1.1

pub new-requires-4 : goal.new-requires-4
new-requires-4 g c = part_small (client_layout g.row.C g.row.M g.row.A g.A.Allocator) 3 9223372036854775808 c.requires-raw.1.1.1.1

pub new-requires-5 : goal.new-requires-5
new-requires-5 g c = part_small (client_layout g.row.C g.row.M g.row.A g.A.Allocator) 4 9223372036854775808 c.requires-raw.1.1.1.1

pub returns-clause-new : goal.returns-clause-new
returns-clause-new g c = λ client manager knows. record {
  a = c.new.ensures.stands client manager;
  c = c.new-3.ensures.stands client manager;
  e = c.new-5.ensures.stands client manager;
  book = knows;
}
