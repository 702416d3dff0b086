-- Lists of beats in which no burst is interrupted, by the SiFive TileLink Specification 1.8: burst rules.
use Rattle.std.specs.Prelude.{◌≢◌, ◌+◌, ◌==◌, ℕ, Bool, cond, Option, None, Some, List, [], ◌∷◌, ◌++◌, length}
use Rattle.tl_msg.specs.Rules.{Rules}
use Rattle.tl_msg.specs.Faults.{opening_fault, continuing_fault}
use Rattle.tl_msg.specs.declared.beat.BeatOf.{BeatOf}
use Rattle.tl_msg.specs.declared.fault.BeatFault.{BeatFault}
use Rattle.tl_burst.specs.Messages.{Message, IsLawful, beats_of}
use Rattle.tl_burst.specs.Spelling.{Spells}

module _ {H : Type 0} (r : Rules H) where
  -- the beats bs carry the lawful messages ms, one after the other, and then `rest`: nothing, or the first beats of one
  -- more message, but not all of them. `homes` has the home of each message that has begun, in order
  pub data Handed (w : ℕ) : (bs : List (BeatOf H w)) → (homes : List ℕ) → (ms : List (Message H)) → (rest : List (BeatOf H w)) → Type 0 where
    nothing : Handed w [] [] [] []
    begun : (m : Message H) (rest more : List (BeatOf H w)) → IsLawful r m → Spells r m w (rest ++ more) → rest ≢ [] → more ≢ [] →
        Handed w rest (m.home ∷ []) [] rest
    whole : (m : Message H) (bs others : List (BeatOf H w)) (homes : List ℕ) (ms : List (Message H)) (rest : List (BeatOf H w)) →
        IsLawful r m → Spells r m w bs → Handed w others homes ms rest → Handed w (bs ++ others) (m.home ∷ homes) (m ∷ ms) rest

  -- the list is handed, with these homes
  abbrev pub IsHandedWith : {w : ℕ} → (bs : List (BeatOf H w)) → (homes : List ℕ) → Type 0
  IsHandedWith {w} bs homes = (ms : List (Message H)) × (rest : List (BeatOf H w)) × Handed w bs homes ms rest

  -- the list is handed, with some homes
  pub record IsHanded {w : ℕ} (bs : List (BeatOf H w)) : Type 0 where
    pub homes : List ℕ
    pub messages : List (Message H)
    pub rest : List (BeatOf H w)
    pub handed : Handed w bs homes messages rest

  -- a beat is admitted after beats that were accepted: the list with this beat is also handed
  abbrev pub IsAdmitted : {w : ℕ} → (bs : List (BeatOf H w)) → BeatOf H w → Type 0
  IsAdmitted bs b = IsHanded (bs ++ b ∷ [])

  -- ---- the rest, computed from the sizes in the heads

  -- whether b is the last beat of the message that the beats of `seen` have begun
  abbrev pub ends : (w : ℕ) → (seen : List (BeatOf H w)) → BeatOf H w → Bool
  ends w seen b = length seen + 1 == beats_of r b.head w

  -- the beats of the message that is unfinished after `seen` and bs
  abbrev pub rest_after : (w : ℕ) → (seen bs : List (BeatOf H w)) → List (BeatOf H w)
  rest_after w seen [] = seen
  rest_after w seen (b ∷ bs) = cond (ends w seen b) (rest_after w [] bs) (rest_after w (seen ++ b ∷ []) bs)

  abbrev pub rest_of : (w : ℕ) → List (BeatOf H w) → List (BeatOf H w)
  rest_of w bs = rest_after w [] bs

  -- the homes after one more beat: a beat that opens a message adds its home, which only D leaves free
  abbrev pub with_home : {w : ℕ} → (home : ℕ) → (rest : List (BeatOf H w)) → (homes : List ℕ) → List ℕ
  with_home home [] homes = homes ++ home ∷ []
  with_home home (b ∷ bs) homes = homes

  abbrev pub homes_with : {w : ℕ} → (bs : List (BeatOf H w)) → (homes : List ℕ) → BeatOf H w → (home : ℕ) → List ℕ
  homes_with {w} bs homes b home = with_home (r.lane_address b.head home) (rest_of w bs) homes

  -- the burst that a rest has begun: its head, and the number of its accepted beats
  abbrev pub burst_of : {w : ℕ} → (rest : List (BeatOf H w)) → Option (H × ℕ)
  burst_of [] = None
  burst_of (b ∷ bs) = Some (b.head, length (b ∷ bs))

  -- the burst that is open after beats that were accepted
  abbrev pub burst_after : {w : ℕ} → (bs : List (BeatOf H w)) → Option (H × ℕ)
  burst_after {w} bs = burst_of (rest_of w bs)

  -- the first fault of a beat while this burst is open, or outside a burst for None (order: this project's choice)
  abbrev pub fault_in : {w : ℕ} → (burst : Option (H × ℕ)) → BeatOf H w → Option BeatFault
  fault_in None b = opening_fault r b
  fault_in (Some burst) b = continuing_fault r burst.0 b

  -- the first fault of a beat after beats that were accepted
  abbrev pub fault_after : {w : ℕ} → (bs : List (BeatOf H w)) → BeatOf H w → Option BeatFault
  fault_after bs b = fault_in (burst_after bs) b
