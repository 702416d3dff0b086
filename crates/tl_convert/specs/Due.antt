-- The far beats that are due after given near beats, by the SiFive TileLink Specification 1.8: burst rules and byte
-- lanes. Part of a message is rounded down to whole far beats, which is this project's choice.
use Rattle.std.specs.Prelude.{◌≡◌, ◌≢◌, ◌*◌, ◌/◌, ◌++◌, ℕ, cond, Option, Some, List, [], ◌∷◌, length, flat_map, take, drop, slice_get, slice_index}
use Rattle.tl_msg.specs.Rules.{Rules}
use Rattle.tl_msg.specs.declared.beat.BeatOf.{BeatOf}
use Rattle.tl_burst.specs.Messages.{Message, IsLawful, per_beat, layout}
use Rattle.tl_burst.specs.Spelling.{Spells}
use Rattle.tl_burst.specs.Reading.{message_of}
use Rattle.tl_burst.specs.Handing.{Handed, ends}

module _ {H : Type 0} (r : Rules H) where
  -- the number of far beats that are due after n near beats of an unfinished message: those whose bytes have all
  -- arrived
  abbrev pub far_beats_of : H → (w v n : ℕ) → ℕ
  far_beats_of h w v n = n * per_beat r h w / per_beat r h v

  -- ---- in terms of the messages that were carried

  -- the far beats of whole messages
  abbrev pub layouts : (v : ℕ) → List (Message H) → List (BeatOf H v)
  layouts v ms = flat_map (λ m. layout r m v) ms

  -- a message that these beats begin; `home` is the home at its position in the list of homes
  pub record Begins {w : ℕ} (m : Message H) (home : Option ℕ) (rest : List (BeatOf H w)) : Type 0 where
    pub lawful : IsLawful r m
    pub home_is : home ≡ Some m.home
    pub more : List (BeatOf H w)
    pub spells : Spells r m w (rest ++ more)
    pub left : more ≢ []

  -- the far beats that are due after whole messages and a rest
  pub data DueOf (w v : ℕ) (ms : List (Message H)) (homes : List ℕ) : (rest : List (BeatOf H w)) → (far : List (BeatOf H v)) → Type 0 where
    between : DueOf w v ms homes [] (layouts v ms)
    within : (m : Message H) (rest : List (BeatOf H w)) → rest ≢ [] → Begins m (slice_get homes (length ms)) rest →
        DueOf w v ms homes rest (layouts v ms ++ take (far_beats_of m.head w v (length rest)) (layout r m v))

  -- the far beats that are due after near beats that are handed
  pub record IsDue {w v : ℕ} (bs : List (BeatOf H w)) (homes : List ℕ) (far : List (BeatOf H v)) : Type 0 where
    pub messages : List (Message H)
    pub rest : List (BeatOf H w)
    pub handed : Handed r w bs homes messages rest
    pub due_of : DueOf w v messages homes rest far

  -- ---- the same, computed beat by beat: `seen` are the beats of the open message so far, and the first of homes is its home

  -- the far beats that are due of the part of a message that these beats carry
  abbrev pub part : (w v home : ℕ) → List (BeatOf H w) → List (BeatOf H v)
  part w v home [] = []
  part w v home (b ∷ bs) = take (far_beats_of b.head w v (length (b ∷ bs))) (layout r (message_of r b.head w home (b ∷ bs)) v)

  abbrev pub due_after : (w v : ℕ) → (seen : List (BeatOf H w)) → (homes : List ℕ) → List (BeatOf H w) → List (BeatOf H v)
  due_after w v seen homes [] = part w v (slice_index homes 0) seen
  due_after w v seen homes (b ∷ bs) = cond (ends r w seen b)
      (layout r (message_of r b.head w (slice_index homes 0) (seen ++ b ∷ [])) v ++ due_after w v [] (drop 1 homes) bs)
      (due_after w v (seen ++ b ∷ []) homes bs)

  -- the far beats that are due after near beats: those of whole messages, and those of the last message whose bytes
  -- have all arrived
  abbrev pub due : (w v : ℕ) → List (BeatOf H w) → (homes : List ℕ) → List (BeatOf H v)
  due w v bs homes = due_after w v [] homes bs
