-- The far beats that one near beat completes: the facts that the functions inside this crate promise each other.
use Rattle.std.specs.Prelude.{◌≡◌, ◌≢◌, ◌<◌, ◌≤◌, ◌*◌, ◌++◌, ℕ, true, Some, List, [], ◌∷◌, length, slice_index}
use Rattle.tl_lanes.specs.declared.limits.TheConstants.{MAX_SIZE}
use Rattle.tl_lanes.specs.Lanes.{IsWidth}
use Rattle.tl_msg.specs.Rules.{Rules}
use Rattle.tl_msg.specs.declared.beat.BeatOf.{BeatOf}
use Rattle.tl_burst.specs.Messages.{Message, per_beat, beats_of}
use Rattle.tl_burst.specs.Reading.{message_of}
use Rattle.tl_burst.proofs.Fits.{FitsMask, head_of}
use Rattle.tl_convert.specs.Due.{part, due_after, far_beats_of}
use Rattle.tl_convert.specs.Partial.{Filled}

-- a message without data
abbrev pub of_head : {H : Type 0} → H → (home : ℕ) → Message H
of_head h home = record { head = h; home = home; cells = [] }

-- the beats of the message before this one, and the far beat that they have begun
pub record Run {H : Type 0} {W V : ℕ} (r : Rules H) (index home : ℕ) (b : BeatOf H W) (partial : BeatOf H V) (bs : List (BeatOf H W)) : Type 0 where
  pub index_is : index ≡ length bs
  pub inside : index < beats_of r b.head W
  pub heads : (g : H) → head_of bs ≡ Some g → g ≡ b.head
  pub mask : FitsMask r b
  pub home_is : r.masked ≡ true → home ≡ r.lane_address b.head 0
  pub filled : index ≢ 0 →
      Filled r (message_of r b.head W home bs) V (far_beats_of r b.head W V (length bs)) (length bs * per_beat r b.head W) partial

-- the far beats that a near beat with data completes after the earlier beats of its message, and the far beat that is
-- begun afterwards
pub record GivenData {H : Type 0} {W V : ℕ} (r : Rules H) (home : ℕ) (b : BeatOf H W) (partial : BeatOf H V) (bs : List (BeatOf H W))
    (out : List (BeatOf H V)) : Type 0 where
  pub due_is : (homes : List ℕ) → slice_index homes 0 ≡ home → due_after r W V bs homes (b ∷ []) ≡ part r W V home bs ++ out
  pub filled : Filled r (message_of r b.head W home (bs ++ b ∷ [])) V (far_beats_of r b.head W V (length (bs ++ b ∷ [])))
      (length (bs ++ b ∷ []) * per_beat r b.head W) partial

-- the same for any near beat
pub record Given {H : Type 0} {W V : ℕ} (r : Rules H) (home : ℕ) (b : BeatOf H W) (partial : BeatOf H V) (bs : List (BeatOf H W))
    (out : List (BeatOf H V)) : Type 0 where
  pub due_is : (homes : List ℕ) → slice_index homes 0 ≡ home → due_after r W V bs homes (b ∷ []) ≡ part r W V home bs ++ out
  pub filled : r.carries b.head ≡ true → Filled r (message_of r b.head W home (bs ++ b ∷ [])) V
      (far_beats_of r b.head W V (length (bs ++ b ∷ []))) (length (bs ++ b ∷ []) * per_beat r b.head W) partial

-- the preconditions of a call that writes the far beats of a near beat: one clause instead of four, since each is
-- stated again at each call
pub record CanGive {H : Type 0} {W V : ℕ} (r : Rules H) (b : BeatOf H W) (out : List (BeatOf H V)) : Type 0 where
  pub near : IsWidth W
  pub far : IsWidth V
  pub small : r.size b.head ≤ MAX_SIZE
  pub empty : out ≡ []
