use Rattle.tl_sides.proofs.Layouts.{bridge_layout, part_small}
use Rattle.tl_sides.proofs.Bridging.{new_bridge}
use Rattle.tl_sides.proofs.sync_bridge.bridge_over.Goals as goal

-- each port is a part of the result
pub with_book-requires : goal.with_book-requires
with_book-requires g c = (
  c.requires-raw.1.1.1.1.1.1.1.1.0,
  part_small (bridge_layout g.row.C g.row.M g.row.A g.A.Allocator) 0 9223372036854775808 c.requires-raw.1.1.1.1.1.1.1.1.1.1,
)

pub with_book-requires-2 : goal.with_book-requires-2
with_book-requires-2 g c = (
  c.requires-raw.1.1.1.1.1.1.1.1.1.0,
  part_small (bridge_layout g.row.C g.row.M g.row.A g.A.Allocator) 1 9223372036854775808 c.requires-raw.1.1.1.1.1.1.1.1.1.1,
)

pub returns : goal.returns
returns g c = λ ring some near far made knows_client knows_manager.
    new_bridge c.with_book.result c.with_book-2.result c.args.parts.0 c.args.parts.1 c.args.parts.2 c.args.parts.3 c.args.parts.4 ring some made
    (c.with_book.ensures.new near far knows_client) (c.with_book-2.ensures.new near far knows_manager)
    (c.with_book.ensures.ready_a, c.with_book-2.ensures.ready_b, c.with_book.ensures.ready_c, c.with_book-2.ensures.ready_d, c.with_book.ensures.ready_e)
    (c.with_book-2.ensures.empty_a, c.with_book.ensures.empty_b, c.with_book-2.ensures.empty_c, c.with_book.ensures.empty_d, c.with_book-2.ensures.empty_e)
