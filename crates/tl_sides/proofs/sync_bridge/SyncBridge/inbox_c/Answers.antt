use Rattle.std.proofs.Common.{ap, ◌∙◌}
use Rattle.tl_sides.specs.Joining.{bridge_of}
use Rattle.tl_sides.proofs.Layouts.{bridge_layout, inner_small}
use Rattle.tl_sides.proofs.sync_bridge.SyncBridge.inbox_c.Goals as goal

pub as_slice-requires : goal.as_slice-requires
as_slice-requires g c = (
  inner_small (bridge_layout g.row.C g.row.M g.row.A g.A.Allocator) 1 2 9223372036854775808
      c.requires-raw.1.1.1.0,
  c.requires-raw.1.1.1.1,
)

pub returns : goal.returns
returns g c =
    let view = ap (λ q. bridge_of q.client q.manager q.a q.b q.c q.d q.e) c.self-inside.view_is ∙ c.self.view_is in
    rw (← view) c.as_slice.ensures.beats
