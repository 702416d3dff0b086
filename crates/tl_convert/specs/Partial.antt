-- The far beat that is not full yet. A byte is named by its number in its message, and a far beat by its number in the
-- layout.
use Rattle.std.specs.Prelude.{◌≡◌, ◌≢◌, ◌<◌, ◌≤◌, ◌*◌, ◌-◌, ◌^◌, ◌&&◌, ℕ, cond, Some, slice_get, slice_index, length}
use Rattle.std.specs.Int.{bit_at}
use Rattle.tl_msg.specs.Rules.{Rules}
use Rattle.tl_msg.specs.declared.beat.BeatOf.{BeatOf}
use Rattle.tl_lanes.specs.declared.limits.TheConstants.{WIDEST}
use Rattle.tl_lanes.specs.Lanes.{lane_of}
use Rattle.tl_burst.specs.Messages.{Message, Cell, per_beat, some_of, is_bad}

-- a beat with the bytes of far beat j of a message, from the beat's first byte up to `end`
pub record Filled {H : Type 0} (r : Rules H) (m : Message H) (v j end : ℕ) (b : BeatOf H v) : Type 0 where
  pub head : b.head ≡ m.head
  pub size : length b.lanes ≡ v
  pub bytes : (i : ℕ) (c : Cell) → j * per_beat r m.head v ≤ i → i < end → slice_get m.cells i ≡ Some c →
      slice_index b.lanes (lane_of m.home i v) ≡ c.byte
  pub blank : (l : ℕ) → ((i : ℕ) → j * per_beat r m.head v ≤ i → i < end → lane_of m.home i v ≢ l) → slice_index b.lanes l ≡ 0
  pub bits : (i : ℕ) (c : Cell) → j * per_beat r m.head v ≤ i → i < end → slice_get m.cells i ≡ Some c →
      bit_at b.mask (lane_of m.home i v) ≡ cond (r.masked && c.on) 1 0
  pub clear : (l : ℕ) → l < WIDEST → ((i : ℕ) → j * per_beat r m.head v ≤ i → i < end → lane_of m.home i v ≢ l) → bit_at b.mask l ≡ 0
  pub small : b.mask < 2 ^ WIDEST
  pub corrupt : b.corrupt ≡ some_of (is_bad r m) (j * per_beat r m.head v) (end - j * per_beat r m.head v)
