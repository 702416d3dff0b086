-- How bytes move from a near beat into far beats: the facts that the functions inside this crate promise each other. A
-- byte is named by its number in its message, and a far beat by its number in the layout.
use Rattle.std.specs.Prelude.{◌≡◌, ◌≢◌, ◌<◌, ◌≤◌, ◌+◌, ◌/◌, ◌%◌, ◌-◌, ◌^◌, ◌||◌, ℕ, Bool, true, false, cond, Some, List, [], map, replicate}
use Rattle.std.specs.Prelude.{slice_get, slice_index, length}
use Rattle.std.specs.List.{range_with_len}
use Rattle.std.specs.Int.{bit_at}
use Rattle.tl_msg.specs.Rules.{Rules}
use Rattle.tl_msg.specs.declared.beat.BeatOf.{BeatOf}
use Rattle.tl_lanes.specs.declared.limits.TheConstants.{MAX_SIZE, WIDEST}
use Rattle.tl_lanes.specs.Lanes.{IsWidth, lane_of}
use Rattle.tl_burst.specs.Messages.{Message, per_beat, beat_at}
use Rattle.tl_burst.specs.Reading.{cell_of}
use Rattle.tl_convert.specs.Partial.{Filled}

-- a near beat carries n bytes of a message, from byte `first` on
pub record Brings {H : Type 0} {W : ℕ} (r : Rules H) (m : Message H) (first n : ℕ) (b : BeatOf H W) : Type 0 where
  pub head : b.head ≡ m.head
  pub cells : (i : ℕ) → first ≤ i → i < first + n → slice_get m.cells i ≡ Some (cell_of r m.head W (lane_of m.home i W) (Some b))
  pub bits : r.masked ≡ true → r.partial m.head ≡ false → (i : ℕ) → first ≤ i → i < first + n → bit_at b.mask (lane_of m.home i W) ≡ 1

-- the far beats of a message, from number first / p on and before number end / p, with p bytes per far beat
abbrev pub far_beats : {H : Type 0} → Rules H → Message H → (v first end : ℕ) → List (BeatOf H v)
far_beats r m v first end =
    map (beat_at r m v) (range_with_len (first / per_beat r m.head v) (end / per_beat r m.head v - first / per_beat r m.head v))

-- the lanes, mask bits and corrupt bit of a near beat were added to those of a far beat
pub record Poured {H : Type 0} {W V : ℕ} (masked : Bool) (from : BeatOf H W) (old new : BeatOf H V) (at count : ℕ) : Type 0 where
  pub head : new.head ≡ old.head
  pub size : length new.lanes ≡ V
  pub moved : (k : ℕ) → k < count → slice_index new.lanes (lane_of at k V) ≡ slice_index from.lanes (lane_of at k W)
  pub kept : (l : ℕ) → ((k : ℕ) → k < count → lane_of at k V ≢ l) → slice_index new.lanes l ≡ slice_index old.lanes l
  pub bits : (k : ℕ) → k < count → bit_at new.mask (lane_of at k V) ≡ cond masked (bit_at from.mask (lane_of at k W))
      (bit_at old.mask (lane_of at k V))
  pub bits_kept : (l : ℕ) → l < WIDEST → ((k : ℕ) → k < count → lane_of at k V ≢ l) → bit_at new.mask l ≡ bit_at old.mask l
  pub small : old.mask < 2 ^ WIDEST → new.mask < 2 ^ WIDEST
  pub corrupt : new.corrupt ≡ old.corrupt || from.corrupt

-- a far beat without bytes
pub record IsBlank {H : Type 0} {V : ℕ} (head : H) (b : BeatOf H V) : Type 0 where
  pub head_is : b.head ≡ head
  pub lanes : b.lanes ≡ replicate V 0
  pub size : length b.lanes ≡ V
  pub mask : b.mask ≡ 0
  pub corrupt : b.corrupt ≡ false

-- a near beat carries the bytes of a message from `first` on
pub record Source {H : Type 0} {W : ℕ} (r : Rules H) (m : Message H) (home first : ℕ) (b : BeatOf H W) : Type 0 where
  pub home_is : m.home ≡ home
  pub carries : r.carries m.head ≡ true
  pub cells : length m.cells ≡ 2 ^ r.size m.head
  pub room : first + per_beat r m.head W ≤ 2 ^ r.size m.head
  pub brings : Brings r m first (per_beat r m.head W) b

-- the far beats that end after byte `first` and not after `end`, and the beginning of the next one
pub record Pours {H : Type 0} (r : Rules H) (m : Message H) (v first end : ℕ) (next : BeatOf H v) (out : List (BeatOf H v)) : Type 0 where
  pub filled : Filled r m v (end / per_beat r m.head v) end next
  pub beats : out ≡ far_beats r m v first end

-- the preconditions of a call that moves the bytes of a near beat, from byte `first` of its message on, into far beats:
-- one clause instead of six, since each is stated again at each call
pub record CanPour {H : Type 0} {W V : ℕ} (r : Rules H) (b : BeatOf H W) (first : ℕ) (out : List (BeatOf H V)) : Type 0 where
  pub near : IsWidth W
  pub far : IsWidth V
  pub small : r.size b.head ≤ MAX_SIZE
  pub whole : first % per_beat r b.head W ≡ 0
  pub room : first < 2 ^ 40
  pub empty : out ≡ []
