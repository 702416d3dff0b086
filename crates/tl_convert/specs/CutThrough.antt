-- Cut-through: a far beat is due as soon as the near beat with its last byte is accepted, and not before. By the SiFive
-- TileLink Specification 1.8: byte lanes. A far beat does not wait for the rest of its message, which is this project's
-- choice.
use Rattle.std.specs.Prelude.{◌≡◌, ◌≢◌, ◌≤◌, ◌<◌, ◌+◌, ◌-◌, ◌*◌, ◌/◌, ℕ, None, Some, List, [], length, slice_get}
use mathlib.Core.List.{IsPrefix}
use Rattle.tl_msg.specs.Rules.{Rules}
use Rattle.tl_msg.specs.declared.beat.BeatOf.{BeatOf}
use Rattle.tl_burst.specs.Messages.{Message, per_beat, beat_at}
use Rattle.tl_burst.specs.Handing.{Handed}
use Rattle.tl_convert.specs.Due.{due, layouts, Begins}

module _ {H : Type 0} (r : Rules H) where
  -- the number of the last byte that far beat j of a message carries
  abbrev pub last_byte : H → (v j : ℕ) → ℕ
  last_byte h v j = (j + 1) * per_beat r h v - 1

  -- the number of the near beat that carries byte i of a message
  abbrev pub near_beat_with : H → (w i : ℕ) → ℕ
  near_beat_with h w i = i / per_beat r h w

  -- near beats have carried the messages ms, and then `rest`, the first beats of one more message
  pub record IsCutThrough {w : ℕ} (v : ℕ) (bs : List (BeatOf H w)) (homes : List ℕ) (ms : List (Message H)) (rest : List (BeatOf H w)) : Type 0 where
    -- each far beat of the messages that are whole is due, before all others
    pub whole : IsPrefix (layouts r v ms) (due r w v bs homes)
    -- far beat j of the message that the rest begins is due as soon as the near beat with its last byte is part of the
    -- rest
    pub due_at_once : (m : Message H) → rest ≢ [] → Begins r m (slice_get homes (length ms)) rest → (j : ℕ) →
        near_beat_with m.head w (last_byte m.head v j) < length rest →
        slice_get (due r w v bs homes) (length (layouts r v ms) + j) ≡ Some (beat_at r m v j)
    -- and not before
    pub due_no_sooner : (m : Message H) → rest ≢ [] → Begins r m (slice_get homes (length ms)) rest → (j : ℕ) →
        length rest ≤ near_beat_with m.head w (last_byte m.head v j) →
        slice_get (due r w v bs homes) (length (layouts r v ms) + j) ≡ None

  -- cut-through holds after all near beats that are handed
  abbrev pub CutThrough : (w v : ℕ) → Type 0
  CutThrough w v = (bs : List (BeatOf H w)) (homes : List ℕ) (ms : List (Message H)) (rest : List (BeatOf H w)) →
      Handed r w bs homes ms rest → IsCutThrough v bs homes ms rest
