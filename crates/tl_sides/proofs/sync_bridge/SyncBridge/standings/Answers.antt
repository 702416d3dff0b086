use Rattle.std.proofs.Common.{◌∙◌}
use Rattle.tl_sides.proofs.Layouts.{bridge_layout, part_small}
use Rattle.tl_sides.proofs.sync_bridge.SyncBridge.standings.Goals as goal

pub len-requires : goal.len-requires
len-requires g c = part_small (bridge_layout g.row.C g.row.M g.row.A g.A.Allocator) 2 9223372036854775808 c.requires-raw.1.1.1

pub len-requires-2 : goal.len-requires-2
len-requires-2 g c = part_small (bridge_layout g.row.C g.row.M g.row.A g.A.Allocator) 3 9223372036854775808 c.requires-raw.1.1.1

pub len-requires-3 : goal.len-requires-3
len-requires-3 g c = part_small (bridge_layout g.row.C g.row.M g.row.A g.A.Allocator) 4 9223372036854775808 c.requires-raw.1.1.1

pub len-requires-4 : goal.len-requires-4
len-requires-4 g c = part_small (bridge_layout g.row.C g.row.M g.row.A g.A.Allocator) 5 9223372036854775808 c.requires-raw.1.1.1

pub len-requires-5 : goal.len-requires-5
len-requires-5 g c = part_small (bridge_layout g.row.C g.row.M g.row.A g.A.Allocator) 6 9223372036854775808 c.requires-raw.1.1.1

pub standings_between-requires : goal.standings_between-requires
standings_between-requires g c = (
  part_small (bridge_layout g.row.C g.row.M g.row.A g.A.Allocator) 0 9223372036854775808 c.requires-raw.1.1.1,
  part_small (bridge_layout g.row.C g.row.M g.row.A g.A.Allocator) 1 9223372036854775808 c.requires-raw.1.1.1,
)

pub returns : goal.returns
returns g c =
    let n = c.standings_between.ensures in
    rw (← c.self.view_is) (record {
      a = record { staged = n.a.staged; in_ring = n.a.in_ring ∙ c.len.ensures.count; inbox = n.a.inbox };
      b = record { staged = n.b.staged; in_ring = n.b.in_ring ∙ c.len-2.ensures.count; inbox = n.b.inbox };
      c = record { staged = n.c.staged; in_ring = n.c.in_ring ∙ c.len-3.ensures.count; inbox = n.c.inbox };
      d = record { staged = n.d.staged; in_ring = n.d.in_ring ∙ c.len-4.ensures.count; inbox = n.d.inbox };
      e = record { staged = n.e.staged; in_ring = n.e.in_ring ∙ c.len-5.ensures.count; inbox = n.e.inbox };
    })
