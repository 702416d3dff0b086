-- Laws of the far beats that are due.
use Rattle.std.specs.Prelude.{◌≡◌, ◌≢◌, ◌+◌, ◌*◌, ◌/◌, ◌^◌, ◌++◌, ◌==◌, ℕ, Bool, cond, None, Some, List, [], ◌∷◌, length, map, take, slice_get, All}
use mathlib.Core.List.{IsPrefix}
use Rattle.std.specs.List.{enumerate_from}
use Rattle.tl_msg.specs.Rules.{Rules}
use Rattle.tl_msg.specs.declared.beat.BeatOf.{BeatOf}
use Rattle.tl_msg.specs.Faults.{IsLawfulBeat}
use Rattle.tl_burst.specs.Messages.{Cell, Message, per_beat, is_bad, some_of, layout}
use Rattle.tl_burst.specs.Spelling.{Spells}
use Rattle.tl_burst.specs.Handing.{Handed, fault_after}
use Rattle.tl_convert.specs.Due.{due, DueOf, IsDue, Begins}

module _ {H : Type 0} (r : Rules H) where
  -- a list and its homes carry one list of messages and one rest only, and the far beats that are due are the same for
  -- every message that the rest begins: the computed list
  pub record DueIsOne (w v : ℕ) : Type 0 where
    pub one_reading : (bs : List (BeatOf H w)) (homes : List ℕ) (ms ms' : List (Message H)) (rest rest' : List (BeatOf H w)) →
        Handed r w bs homes ms rest → Handed r w bs homes ms' rest' → (ms ≡ ms') × (rest ≡ rest')
    pub computed : (bs : List (BeatOf H w)) (homes : List ℕ) (far : List (BeatOf H v)) → IsDue r bs homes far → far ≡ due r w v bs homes
    pub exists : (bs : List (BeatOf H w)) (homes : List ℕ) (ms : List (Message H)) (rest : List (BeatOf H w)) →
        Handed r w bs homes ms rest → DueOf r w v ms homes rest (due r w v bs homes)

  -- the far beats that are due after the first beats of a list come first among those of the whole list
  pub record EarlierDue {w : ℕ} (v : ℕ) (bs cs : List (BeatOf H w)) (homes : List ℕ) : Type 0 where
    pub earlier_homes : List ℕ
    pub begun : IsPrefix earlier_homes homes
    pub messages : List (Message H)
    pub rest : List (BeatOf H w)
    pub handed : Handed r w bs earlier_homes messages rest
    pub due_first : IsPrefix (due r w v bs earlier_homes) (due r w v (bs ++ cs) homes)

  -- more near beats only add far beats at the end of those that are due
  abbrev pub DueGrows : (w v : ℕ) → Type 0
  DueGrows w v = (bs cs : List (BeatOf H w)) (homes : List ℕ) (ms : List (Message H)) (rest : List (BeatOf H w)) →
      Handed r w (bs ++ cs) homes ms rest → EarlierDue v bs cs homes

  -- whether some byte is corrupt in the beat of v lanes that has byte i
  abbrev pub is_bad_with : (v : ℕ) → Message H → (i : ℕ) → Bool
  is_bad_with v m i = some_of (is_bad r m) (i / per_beat r m.head v * per_beat r m.head v) (per_beat r m.head v)

  -- in each beat of v lanes all bytes are corrupt or none is
  abbrev pub IsEvenlyBad : (v : ℕ) → Message H → Type 0
  IsEvenlyBad v m = (i : ℕ) (c : Cell) → slice_get m.cells i ≡ Some c → c.bad ≡ is_bad_with v m i

  -- the message with corrupt gathered over each beat of v lanes
  abbrev pub gathered : (v : ℕ) → Message H → Message H
  gathered v m = record {
    head = m.head;
    home = m.home;
    cells = map (λ place. record { byte = place.1.byte; on = place.1.on; bad = is_bad_with v m place.0 }) (enumerate_from 0 m.cells);
  }

  -- the layout of a message carries it, even if the message is not lawful: this needs only the number of its bytes and
  -- that in each beat all bytes are corrupt or none is
  abbrev pub LayoutSpells : (v : ℕ) → Type 0
  LayoutSpells v = (m : Message H) →
      length m.cells ≡ cond (r.carries m.head) (2 ^ r.size m.head) 0 → IsEvenlyBad v m →
      Spells r m v (layout r m v)

  -- the homes of the messages that have begun in far beats: one for each whole message, and one more if the far rest is
  -- not empty
  abbrev pub far_homes : {v : ℕ} → (ms : List (Message H)) (homes : List ℕ) (far_rest : List (BeatOf H v)) → List ℕ
  far_homes ms homes far_rest = take (length ms + cond (length far_rest == 0) 0 1) homes

  -- far beats are handed on the far side, by the same messages with corrupt gathered; the message that they have begun
  -- is the one that the near side has begun
  pub record FarIsHanded {w v : ℕ} (far : List (BeatOf H v)) (homes : List ℕ)
      (ms : List (Message H)) (rest : List (BeatOf H w)) : Type 0 where
    pub far_rest : List (BeatOf H v)
    pub handed : Handed r v far (far_homes ms homes far_rest) (map (gathered v) ms) far_rest
    pub same_begun : (m : Message H) → rest ≢ [] → Begins r m (slice_get homes (length ms)) rest → far_rest ≢ [] →
        Begins r (gathered v m) (slice_get homes (length ms)) far_rest

  abbrev pub DueIsHanded : (w v : ℕ) → Type 0
  DueIsHanded w v = (bs : List (BeatOf H w)) (homes : List ℕ) (ms : List (Message H)) (rest : List (BeatOf H w)) →
      Handed r w bs homes ms rest → FarIsHanded (due r w v bs homes) homes ms rest

  -- each far beat that is due is lawful at its width: a new tracker does not refuse it
  abbrev pub DueIsLawful : (w v : ℕ) → Type 0
  DueIsLawful w v = (bs : List (BeatOf H w)) (homes : List ℕ) (ms : List (Message H)) (rest : List (BeatOf H w)) →
      Handed r w bs homes ms rest → All (λ b. IsLawfulBeat r b) (due r w v bs homes)

  -- no beat of a list has a fault after the beats before it
  abbrev pub HasNoFaults : {w : ℕ} → List (BeatOf H w) → Type 0
  HasNoFaults {w} bs = (before after : List (BeatOf H w)) (b : BeatOf H w) → bs ≡ before ++ b ∷ after → fault_after r before b ≡ None

  -- no far beat that is due has one either: the far link refuses none of them
  abbrev pub DueHasNoFaults : (w v : ℕ) → Type 0
  DueHasNoFaults w v = (bs : List (BeatOf H w)) (homes : List ℕ) (ms : List (Message H)) (rest : List (BeatOf H w)) →
      Handed r w bs homes ms rest → HasNoFaults (due r w v bs homes)
