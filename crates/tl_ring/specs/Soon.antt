-- How soon a far beat comes out, counted in calls, because a crossing has no clock (this project's choice).
use Rattle.std.specs.Prelude.{◌≡◌, ◌≤◌, ◌+◌, ◌-◌, ◌/◌, ◌↔◌, ◌++◌, ℕ, suc, Some, List, [], ◌∷◌, length, take, min, slice_get}
use Rattle.tl_msg.specs.Rules.{Rules}
use Rattle.tl_msg.specs.declared.beat.BeatOf.{BeatOf}
use Rattle.tl_burst.specs.Handing.{homes_with}
use Rattle.tl_convert.specs.Due.{due}
use Rattle.tl_ring.specs.Crossing.{World, offered, pushed, popped, inbox_room}

module _ {H : Type 0} {w v : ℕ} where
  -- one pump: staged beats move into the ring, as many as it has room for
  abbrev pub after_pump : World H w v → World H w v
  after_pump x = pushed (min (length x.stage) (x.room - length x.ring)) x

  -- one fetch: beats move from the ring into the inbox, as many as it has room for
  abbrev pub after_fetch : World H w v → World H w v
  after_fetch x = popped (min (length x.ring) (inbox_room - length x.inbox)) x

  -- nothing is under way
  abbrev pub IsIdle : World H w v → Type 0
  IsIdle x = (x.stage ≡ []) × (x.ring ≡ []) × (x.inbox ≡ [])

  -- n pumps, each into a ring that the receiver emptied before; whatever else happens in between, no beat is offered
  pub data AfterPumps : (n : ℕ) → (x y : World H w v) → Type 0 where
    none_yet : (x : World H w v) → AfterPumps 0 x x
    one_more : (n : ℕ) (x y z : World H w v) → AfterPumps n x y → z.room ≡ y.room → z.stage ≡ y.stage → z.ring ≡ [] →
        AfterPumps (suc n) x (after_pump z)

-- the number of rings of `room` beats that hold `count` beats, rounded up
abbrev pub rings_for : (room count : ℕ) → ℕ
rings_for room count = (count + room - 1) / room

pub record HowSoon {H : Type 0} (r : Rules H) : Type 0 where
  -- nothing is under way, and a near beat is offered that makes far beats due: after one pump and one fetch, the first
  -- of these is the next beat to be taken
  pub next : (w v : ℕ) (x : World H w v) (b : BeatOf H w) (home : ℕ) (far : BeatOf H v) (others : List (BeatOf H v)) → IsIdle x → 1 ≤ x.room →
      due r w v (x.accepted ++ b ∷ []) (homes_with r x.accepted x.homes b home) ≡ due r w v x.accepted x.homes ++ far ∷ others →
      slice_get (after_fetch (after_pump (offered r b home x))).inbox 0 ≡ Some far
  -- the others come after it, as many as ring and inbox have room for
  pub together : (w v : ℕ) (x : World H w v) (b : BeatOf H w) (home : ℕ) (far : List (BeatOf H v)) → IsIdle x →
      due r w v (x.accepted ++ b ∷ []) (homes_with r x.accepted x.homes b home) ≡ due r w v x.accepted x.homes ++ far →
      (after_fetch (after_pump (offered r b home x))).inbox ≡ take (min x.room inbox_room) far
  -- staged beats have all left after as many pumps as the rings that they fill, if the ring is emptied before each, and
  -- not after fewer
  pub staged_leave : (w v n : ℕ) (x y : World H w v) → 1 ≤ x.room → AfterPumps n x y →
      (y.stage ≡ []) ↔ (rings_for x.room (length x.stage) ≤ n)
