-- Taking the beats of an inbox into an array (this project's choice).
use Rattle.std.specs.Prelude.{◌≡◌, ℕ, Option, None, List, length, take, drop, map, min, All}
use Rattle.std.specs.Global.{Global}
use Rattle.tl_msg.specs.Faults.{IsLawfulBeat}
use Rattle.tl_msg.specs.Rules.{Rules}
use Rattle.tl_msg.specs.declared.head.HeadA.{HeadA}
use Rattle.tl_msg.specs.declared.head.HeadB.{HeadB}
use Rattle.tl_msg.specs.declared.head.HeadC.{HeadC}
use Rattle.tl_msg.specs.declared.head.HeadD.{HeadD}
use Rattle.tl_msg.specs.declared.head.HeadE.{HeadE}
use Rattle.tl_msg.specs.declared.beat.BeatOf.{BeatOf}
use Rattle.tl_sides.specs.Calls.{TakingChannel}
use Rattle.tl_sides.specs.Sides.{ClientState, ManagerState}
use Rattle.tl_c_beats.specs.declared.fields.BeatFields.{BeatFields}
use Rattle.tl_c.specs.declared.inboxes.ClientBeat.{ClientBeat}
use Rattle.tl_c.specs.declared.inboxes.ManagerBeat.{ManagerBeat}
use Rattle.tl_c.specs.declared.widths.TheConstants.{CLIENT, MANAGER}

-- a beat with its lanes, as C receives it
abbrev pub client_beat : {H : Type 0} → (BeatOf H CLIENT → BeatFields) → BeatOf H CLIENT → ClientBeat
client_beat fields_of b = record { beat = fields_of b; lanes = b.lanes }

abbrev pub manager_beat : {H : Type 0} → (BeatOf H MANAGER → BeatFields) → BeatOf H MANAGER → ManagerBeat
manager_beat fields_of b = record { beat = fields_of b; lanes = b.lanes }

-- beats of a channel were taken, until these were left: all else is the same, except that the book has recorded beats of A
-- and D
abbrev pub left_a : List (BeatOf HeadA MANAGER) → (s t : ManagerState Global CLIENT MANAGER) → Type 0
left_a beats s t = t ≡ record s { a = record s.a { inbox = beats }; book = t.book }

abbrev pub left_b : List (BeatOf HeadB CLIENT) → (s t : ClientState Global CLIENT MANAGER) → Type 0
left_b beats s t = t ≡ record s { b = record s.b { inbox = beats } }

abbrev pub left_c : List (BeatOf HeadC MANAGER) → (s t : ManagerState Global CLIENT MANAGER) → Type 0
left_c beats s t = t ≡ record s { c = record s.c { inbox = beats } }

abbrev pub left_d : List (BeatOf HeadD CLIENT) → (s t : ClientState Global CLIENT MANAGER) → Type 0
left_d beats s t = t ≡ record s { d = record s.d { inbox = beats }; book = t.book }

abbrev pub left_e : List (BeatOf HeadE MANAGER) → (s t : ManagerState Global CLIENT MANAGER) → Type 0
left_e beats s t = t ≡ record s { e = record s.e { inbox = beats } }

module _ {R P H : Type 0} {w : ℕ} (k : TakingChannel R P H w) where
  -- all but the first `count` beats of the inbox are left
  abbrev pub Left : (left : List (BeatOf H w) → R → R → Type 0) (count : ℕ) → R → R → Type 0
  Left left count s t = left (drop count (k.inbox s)) s t

  -- a side takes the beats of an inbox, in order, until it is empty or an array is full, and writes them there
  pub record TakesBeats {B : Type 0} (after : List (BeatOf H w) → P → P) (left : List (BeatOf H w) → R → R → Type 0)
      (written_of : BeatOf H w → B) (s t : R) (unwritten written : List B) (answer : ℕ) : Type 0 where
    pub count : answer ≡ min (length (k.inbox s)) (length unwritten)
    pub taken : (x : P) → k.Stands s x → k.Stands t (after (take answer (k.inbox s)) x)
    pub told : take answer written ≡ map written_of (take answer (k.inbox s))
    pub lawful : All (λ beat. IsLawfulBeat k.rules beat) (take answer (k.inbox s))
    pub rest : drop answer written ≡ drop answer unwritten
    pub kept : Left left answer s t

-- the same of the side that a handle holds, with the result how many beats were taken. The past is extended by them. If no
-- side is held, nothing is taken
pub record TakesAll {S P : Type 0} (Holds : Option S → P → Type 0) {H : Type 0} {w : ℕ} (r : Rules H) {B : Type 0} (written_of : BeatOf H w → B)
    (inbox : Option S → List (BeatOf H w)) (after : List (BeatOf H w) → P → P) (before now : Option S)
    (unwritten written : List B) (answer : ℕ) : Type 0 where
  pub nothing : before ≡ None → now ≡ None
  pub count : answer ≡ min (length (inbox before)) (length unwritten)
  pub taken : (x : P) → Holds before x → Holds now (after (take answer (inbox before)) x)
  pub told : take answer written ≡ map written_of (take answer (inbox before))
  pub lawful : All (λ beat. IsLawfulBeat r beat) (take answer (inbox before))
  -- elements past these beats are unchanged
  pub rest : drop answer written ≡ drop answer unwritten
