use Rattle.std.proofs.Common.{◌≡◌, ◌≤◌, ℕ, List, length}
use Rattle.tl_ring.specs.declared.standing.Standing.{Standing}
use Rattle.tl_sides.specs.Inner.Meeting.{AreCounted}
use Rattle.tl_sides.specs.Words.{BeatOf, Outgoing, STAGE_CAPACITY}
use Rattle.tl_sides.proofs.Layouts.{client_layout, manager_layout, part_small}
use Rattle.tl_sides.proofs.sides.standings_between.Goals as goal

pub between-requires : goal.between-requires
between-requires g c = (
  part_small (client_layout g.row.C g.row.M g.row.A g.A.Allocator) 0 9223372036854775808 c.requires-raw.1.1.1.0,
  part_small (manager_layout g.row.C g.row.M g.row.A g.A.Allocator) 0 9223372036854775808 c.requires-raw.1.1.1.1,
)

pub between-requires-2 : goal.between-requires-2
between-requires-2 g c = (
  part_small (manager_layout g.row.C g.row.M g.row.A g.A.Allocator) 1 9223372036854775808 c.requires-raw.1.1.1.1,
  part_small (client_layout g.row.C g.row.M g.row.A g.A.Allocator) 1 9223372036854775808 c.requires-raw.1.1.1.0,
)

pub between-requires-3 : goal.between-requires-3
between-requires-3 g c = (
  part_small (client_layout g.row.C g.row.M g.row.A g.A.Allocator) 2 9223372036854775808 c.requires-raw.1.1.1.0,
  part_small (manager_layout g.row.C g.row.M g.row.A g.A.Allocator) 2 9223372036854775808 c.requires-raw.1.1.1.1,
)

pub between-requires-4 : goal.between-requires-4
between-requires-4 g c = (
  part_small (manager_layout g.row.C g.row.M g.row.A g.A.Allocator) 3 9223372036854775808 c.requires-raw.1.1.1.1,
  part_small (client_layout g.row.C g.row.M g.row.A g.A.Allocator) 3 9223372036854775808 c.requires-raw.1.1.1.0,
)

pub between-requires-5 : goal.between-requires-5
between-requires-5 g c = (
  part_small (client_layout g.row.C g.row.M g.row.A g.A.Allocator) 4 9223372036854775808 c.requires-raw.1.1.1.0,
  part_small (manager_layout g.row.C g.row.M g.row.A g.A.Allocator) 4 9223372036854775808 c.requires-raw.1.1.1.1,
)

-- an outbox and an inbox that were counted, and what is known between them
counts : {H : Type 0} {v : ℕ} {o : Outgoing H v} {come : List (BeatOf H v)} {known : ℕ} {s : Standing} → s.staged ≡ length o.stage →
    s.in_ring ≡ known → s.inbox ≡ length come → (s.staged ≤ STAGE_CAPACITY) × (s.inbox ≤ STAGE_CAPACITY) → AreCounted o known come s
counts out between come most = record { staged = out; in_ring = between; inbox = come; most = most }

pub returns : goal.returns
returns g c = rw (← c.client.view_is) (rw (← c.manager.view_is) (record {
  a = counts c.between.ensures.staged c.between.ensures.in_ring c.between.ensures.inbox c.between.ensures.most;
  b = counts c.between-2.ensures.staged c.between-2.ensures.in_ring c.between-2.ensures.inbox c.between-2.ensures.most;
  c = counts c.between-3.ensures.staged c.between-3.ensures.in_ring c.between-3.ensures.inbox c.between-3.ensures.most;
  d = counts c.between-4.ensures.staged c.between-4.ensures.in_ring c.between-4.ensures.inbox c.between-4.ensures.most;
  e = counts c.between-5.ensures.staged c.between-5.ensures.in_ring c.between-5.ensures.inbox c.between-5.ensures.most;
}))
