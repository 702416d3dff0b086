-- The state of a converter between two near beats, and the near beats that it represents.
use Rattle.std.specs.Prelude.{◌≡◌, ◌*◌, ◌++◌, ℕ, Option, Some, List, [], ◌∷◌}
use Rattle.tl_msg.specs.Rules.{Rules}
use Rattle.tl_msg.specs.declared.beat.BeatOf.{BeatOf}
use Rattle.tl_burst.specs.Messages.{per_beat}
use Rattle.tl_burst.specs.Reading.{message_of}
use Rattle.tl_burst.specs.Handing.{IsHandedWith, burst_after, rest_of}
use Rattle.tl_convert.specs.Due.{far_beats_of}
use Rattle.tl_convert.specs.Partial.{Filled}

-- a converter between two near beats
pub record Progress (H : Type 0) (v : ℕ) : Type 0 where
  -- the open burst: its head, and the number of its accepted beats
  pub burst : Option (H × ℕ)
  -- the home of the open burst
  pub home : ℕ
  -- the far beat that the open burst has begun
  pub partial : BeatOf H v

-- a converter in this state was fed these near beats, which are handed with these homes
pub record StandsFor {H : Type 0} {w v : ℕ} (r : Rules H) (state : Progress H v) (bs : List (BeatOf H w)) (homes : List ℕ) : Type 0 where
  pub handed : IsHandedWith r bs homes
  -- the open burst is the one that is open after these beats
  pub burst_is : state.burst ≡ burst_after r bs
  -- its home is the last one
  pub home_is : (h : H) (count : ℕ) → state.burst ≡ Some (h, count) → (others : List ℕ) × (homes ≡ others ++ state.home ∷ [])
  -- the far beat that it has begun has those of its bytes for which no far beat was returned yet, and nothing else
  pub partial_is : (h : H) (count : ℕ) → state.burst ≡ Some (h, count) →
      Filled r (message_of r h w state.home (rest_of r w bs)) v (far_beats_of r h w v count) (count * per_beat r h w) state.partial

-- a converter in this state was fed some near beats
abbrev pub IsFed : {H : Type 0} {v : ℕ} → Rules H → (w : ℕ) → Progress H v → Type 0
IsFed {H} r w state = (bs : List (BeatOf H w)) × (homes : List ℕ) × StandsFor r state bs homes
