-- Two bridges in a row: the far beats of the first one are the near beats of the second one.
use Rattle.std.specs.Prelude.{◌≡◌, ◌≢◌, ◌≤◌, ◌++◌, ℕ, false, List, [], length, map, max, take, slice_get, All}
use mathlib.Core.List.{IsPrefix}
use Rattle.tl_msg.specs.Rules.{Rules}
use Rattle.tl_msg.specs.declared.beat.BeatOf.{BeatOf}
use Rattle.tl_burst.specs.Messages.{Message, layout}
use Rattle.tl_burst.specs.Handing.{Handed, IsHandedWith}
use Rattle.tl_convert.specs.Due.{due, far_beats_of, layouts, Begins}
use Rattle.tl_convert.specs.Laws.{gathered}

module _ {H : Type 0} (r : Rules H) where
  -- the far beats of two bridges in a row, from w lanes over a middle bus of v lanes to u lanes. The homes of the
  -- messages are the same on all three buses
  abbrev pub due_in_series : (w v u : ℕ) → List (BeatOf H w) → (homes : List ℕ) → List (BeatOf H u)
  due_in_series w v u bs homes = due r v u (due r w v bs homes) homes

  -- near beats have carried the messages ms, and then `rest`, the first beats of one more message
  pub record IsInSeries {w : ℕ} (v u : ℕ) (bs : List (BeatOf H w)) (homes : List ℕ) (ms : List (Message H)) (rest : List (BeatOf H w)) : Type 0 where
    -- if the middle bus is no wider than the wider one of the others, two bridges give what one gives
    pub as_one : v ≤ max w u → due_in_series w v u bs homes ≡ due r w u bs homes
    -- so they do for every middle bus, after whole messages without a corrupt beat
    pub as_one_if_clean : rest ≡ [] → All (λ b. b.corrupt ≡ false) bs → due_in_series w v u bs homes ≡ due r w u bs homes
    -- after whole messages, the middle bus makes no difference but that it gathers corrupt
    pub whole : rest ≡ [] → due_in_series w v u bs homes ≡ layouts r u (map (gathered r v) ms)
    -- and it rounds the part of one more message down to whole middle beats
    pub begun : (m : Message H) → rest ≢ [] → Begins r m (slice_get homes (length ms)) rest →
        due_in_series w v u bs homes ≡ layouts r u (map (gathered r v) ms) ++
        take (far_beats_of r m.head v u (far_beats_of r m.head w v (length rest))) (layout r (gathered r v m) u)
    -- the home of a message that has not begun on the middle bus makes no difference: the middle beats are handed
    -- without it
    pub middle_homes : (fewer : List ℕ) → IsHandedWith r (due r w v bs homes) fewer → IsPrefix fewer homes →
        due r v u (due r w v bs homes) fewer ≡ due_in_series w v u bs homes

  -- this holds after all near beats that are handed
  abbrev pub InSeries : (w v u : ℕ) → Type 0
  InSeries w v u = (bs : List (BeatOf H w)) (homes : List ℕ) (ms : List (Message H)) (rest : List (BeatOf H w)) →
      Handed r w bs homes ms rest → IsInSeries v u bs homes ms rest
