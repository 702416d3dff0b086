-- The logical view of the ends of one channel at the two sides.
use Rattle.std.specs.Prelude.{◌≡◌, ◌≤◌, ◌-◌, ℕ, [], length, min}
use Rattle.tl_sides.specs.Words.{World, inbox_room, Sending, Taking, Pushed, Fetched, known_free, known_items, passed, STAGE_CAPACITY, Standing}

module _ {K A H : Type 0} {v : ℕ} where
  -- the number of beats that left the stage of a sending end, and that entered the inbox of a taking end
  abbrev pub pump_count : (before after : Sending K A H v) → ℕ
  pump_count s s' = length s.stage - length s'.stage

  abbrev pub fetch_count : (before after : Taking K A H v) → ℕ
  fetch_count t t' = length t'.inbox - length t.inbox

  -- a pump moves at least as many beats as the end knows to fit, and only staged ones
  pub record Pumps (s s' : Sending K A H v) : Type 0 where
    pub least : min (length s.stage) (known_free s) ≤ pump_count s s'
    pub pushed : Pushed s (pump_count s s') s'

  -- a fetch moves at least as many beats as the end knows to be in the ring, up to the room in the inbox, and never
  -- more than that room
  pub record Fetches (t t' : Taking K A H v) : Type 0 where
    pub least : min (length (known_items t)) (inbox_room - length t.inbox) ≤ fetch_count t t'
    pub most : fetch_count t t' ≤ inbox_room - length t.inbox
    pub fetched : Fetched t (fetch_count t t') t'

  -- nothing is in the inbox, nor known to be in the ring
  abbrev pub IsIdle : Taking K A H v → Type 0
  IsIdle t = (known_items t ≡ []) × (t.inbox ≡ [])

  -- after a meeting, the number of beats in the stage, in the ring and in the inbox
  pub record AreStanding (s : Sending K A H v) (t : Taking K A H v) (n : Standing) : Type 0 where
    pub staged : n.staged ≡ length s.stage
    pub in_ring : n.in_ring ≡ length (known_items t)
    pub inbox : n.inbox ≡ length t.inbox
    pub most : (n.staged ≤ STAGE_CAPACITY) × (n.inbox ≤ STAGE_CAPACITY)

module _ {K A H : Type 0} {w v : ℕ} where
  -- the crossing of a sending end after a pump
  abbrev pub after_pump : (before after : Sending K A H v) → World H w v → World H w v
  after_pump s s' x = passed (pump_count s s') x
