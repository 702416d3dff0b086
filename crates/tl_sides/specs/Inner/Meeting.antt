-- The numbers of beats when both sides meet. Only contracts of private functions use these definitions.
use Rattle.std.specs.Prelude.{◌≡◌, ◌≤◌, ℕ, List, length}
use Rattle.tl_sides.specs.Words.{BeatOf, Outgoing, STAGE_CAPACITY, Standing, inbox_room}

-- the number of beats in an outbox, known to be in the ring after it, and in an inbox
pub record AreCounted {H : Type 0} {v : ℕ} (outgoing : Outgoing H v) (known : ℕ) (come : List (BeatOf H v)) (n : Standing) : Type 0 where
  pub staged : n.staged ≡ length outgoing.stage
  pub in_ring : n.in_ring ≡ known
  pub inbox : n.inbox ≡ length come
  pub most : (n.staged ≤ STAGE_CAPACITY) × (n.inbox ≤ inbox_room)
