-- The law of the crossing, for all lists of events.
use Rattle.std.specs.Prelude.{◌≡◌, ◌≤◌, ℕ, true, List, [], ◌++◌, length}
use Rattle.tl_lanes.specs.Lanes.{IsWidth}
use Rattle.tl_msg.specs.Rules.{Rules}
use Rattle.tl_msg.specs.declared.beat.BeatOf.{BeatOf}
use Rattle.tl_burst.specs.Messages.{Message}
use Rattle.tl_burst.specs.Handing.{Handed}
use Rattle.tl_convert.specs.Due.{due, layouts}
use Rattle.tl_ring.specs.Crossing.{World, Event, Run, empty, inbox_room}

module _ {H : Type 0} (r : Rules H) {w v : ℕ} where
  -- the property that holds at every moment of a crossing
  pub record Crosses (x : World H w v) : Type 0 where
    -- the beats taken, followed by those in the inbox, the ring and the stage, are the far layout of the accepted
    -- beats: each beat once, in order (by the law due_is_handed of tl_convert, no burst is interrupted in it)
    pub beats : x.taken ++ x.inbox ++ x.ring ++ x.stage ≡ due r w v x.accepted x.homes
    -- the accepted beats are handed
    pub messages : List (Message H)
    pub rest : List (BeatOf H w)
    pub handed : Handed r w x.accepted x.homes messages rest
    -- after a close, only whole messages were accepted; when nothing is under way, all of them were taken
    pub closed_whole : x.closed ≡ true → rest ≡ []
    pub drained : x.closed ≡ true → x.stage ≡ [] → x.ring ≡ [] → x.inbox ≡ [] → x.taken ≡ layouts r v messages
    -- ring and inbox never exceed their capacity
    pub ring_room : length x.ring ≤ x.room
    pub inbox_size : length x.inbox ≤ inbox_room

-- every list of events leads to a world, in which all beats are where they belong; once closed, no more beats are
-- accepted
pub record EveryRunCrosses {H : Type 0} (r : Rules H) : Type 0 where
  pub leads : (w v room : ℕ) (es : List (Event H w)) → IsWidth w → IsWidth v → (x : World H w v) × Run r (empty room) es x
  pub crosses : (w v room : ℕ) (es : List (Event H w)) (x : World H w v) → IsWidth w → IsWidth v → Run r (empty room) es x → Crosses r x
  pub shut : (w v room : ℕ) (es later : List (Event H w)) (x y : World H w v) → IsWidth w → IsWidth v →
      Run r (empty room) es x → x.closed ≡ true → Run r x later y → (y.closed ≡ true) × (y.accepted ≡ x.accepted)
