use Rattle.tl_sides.proofs.Bridging.{all_taken}
use Rattle.tl_sides.proofs.Layouts.{bridge_layout, part_small}
use Rattle.tl_sides.proofs.sync_bridge.SyncBridge.take_all.Goals as goal

pub take_all-requires : goal.take_all-requires
take_all-requires g c = (
  part_small (bridge_layout g.row.C g.row.M g.row.A g.A.Allocator) 0 9223372036854775808
      c.requires-raw.1.1.1.0,
  c.requires.client,
)

pub take_all-requires-2 : goal.take_all-requires-2
take_all-requires-2 g c = (
  part_small (bridge_layout g.row.C g.row.M g.row.A g.A.Allocator) 1 9223372036854775808
      c.requires-raw.1.1.1.0,
  c.requires.manager,
)

pub returns : goal.returns
returns g c = rw (← c.self.view_is)
    (λ x h. all_taken c.self.inside x h c.take_all.new.self c.take_all-2.new.self c.take_all.ensures.rest c.take_all-2.ensures.rest
    (c.take_all.ensures.book x.client h.client) (c.take_all-2.ensures.book x.manager h.manager))
