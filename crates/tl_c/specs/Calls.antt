-- The effect of the calls of a side's handle, given the past of the side that it holds (this project's choice).
use Rattle.std.specs.Prelude.{◌≡◌, ◌+◌, ℕ, Bool, true, false, Option, Some, None, List, [], length, slice_get, take, IfSome}
use Rattle.tl_msg.specs.Faults.{IsLawfulBeat}
use Rattle.tl_msg.specs.Rules.{Rules}
use Rattle.tl_msg.specs.Tables.{rules_b, rules_c, rules_e}
use Rattle.tl_msg.specs.declared.head.HeadA.{HeadA}
use Rattle.tl_msg.specs.declared.head.HeadB.{HeadB}
use Rattle.tl_msg.specs.declared.head.HeadC.{HeadC}
use Rattle.tl_msg.specs.declared.head.HeadD.{HeadD}
use Rattle.tl_msg.specs.declared.head.HeadE.{HeadE}
use Rattle.tl_msg.specs.declared.beat.BeatOf.{BeatOf}
use Rattle.tl_convert.specs.Laws.{HasNoFaults}
use Rattle.tl_settle.specs.Obeying.{ObeysRules}
use Rattle.tl_sides.specs.Legal.{WentOn}
use Rattle.tl_ring.specs.Ends.{Sending, Taking, known_items, received, sent}
use Rattle.std.specs.Global.{Global}
use Rattle.tl_sides.specs.Calls.{SendingChannel, TakingChannel}
use Rattle.tl_sides.specs.Ports as ports
use Rattle.tl_sides.specs.Ends.{Pumps, Fetches, pump_count, fetch_count}
use Rattle.tl_sides.specs.Sides.{ClientState, ManagerState, ClientPast, ManagerPast, ClientStandsFor, ManagerStandsFor, AreSides, SidesMeet}
use Rattle.tl_sides.specs.Sides.{SameClient, SameManager, client_pumps, manager_pumps, client_side, manager_side}
use Rattle.tl_c_beats.specs.declared.counts.BeatCounts.{BeatCounts}
use Rattle.tl_c_beats.specs.declared.counts.ChannelCounts.{ChannelCounts}
use Rattle.tl_c_beats.specs.declared.fields.BeatFields.{BeatFields}
use Rattle.tl_c_beats.specs.Calls.{Stands, Tells}
use Rattle.tl_c_beats.specs.Settling.{KnownSides}
use Rattle.tl_c.specs.declared.client_handle.ClientHandle.{ClientHandle}
use Rattle.tl_c.specs.declared.manager_handle.ManagerHandle.{ManagerHandle}
use Rattle.tl_c.specs.declared.held.ClientHeld.{ClientHeld}
use Rattle.tl_c.specs.declared.held.ManagerHeld.{ManagerHeld}
use Rattle.tl_c.specs.declared.widths.TheConstants.{CLIENT, MANAGER}

-- a side is held, and it represents a past
abbrev pub HoldsClient : Option ClientHeld → ClientPast CLIENT MANAGER → Type 0
HoldsClient = Stands (λ h x. ClientStandsFor h.side x)

abbrev pub HoldsManager : Option ManagerHeld → ManagerPast CLIENT MANAGER → Type 0
HoldsManager = Stands (λ h x. ManagerStandsFor h.side x)

-- both sides of one bridge are held
abbrev pub HoldSides : Option ClientHeld → Option ManagerHeld → Type 0
HoldSides None t = ⊥
HoldSides (Some s) None = ⊥
HoldSides (Some s) (Some t) = AreSides s.side t.side

-- the same side of the same bridge is held, or none, as before
abbrev pub Keeps : {S : Type 0} → (IsSame : S → S → Type 0) → (before now : Option S) → Type 0
Keeps IsSame None s = s ≡ None
Keeps IsSame (Some h) None = ⊥
Keeps IsSame (Some h) (Some k) = IsSame h k

-- a handle keeps its side, and its numbers
abbrev pub KeepsClient : (before now : ClientHandle) → Type 0
KeepsClient before now = Keeps (λ h k. SameClient h.side k.side) before.owned.held now.owned.held × (now.bridge ≡ before.bridge)

abbrev pub KeepsManager : (before now : ManagerHandle) → Type 0
KeepsManager before now = Keeps (λ h k. SameManager h.side k.side) before.owned.held now.owned.held × (now.bridge ≡ before.bridge)

-- a handle keeps its side and its numbers, and the parts of the side that `SameParts` compares stay as they were
abbrev pub KeepsOfClient : (SameParts : ClientState Global CLIENT MANAGER → ClientState Global CLIENT MANAGER → Type 0) →
    (before now : ClientHandle) → Type 0
KeepsOfClient SameParts before now =
    Keeps (λ h k. SameClient h.side k.side × SameParts h.side k.side) before.owned.held now.owned.held × (now.bridge ≡ before.bridge)

abbrev pub KeepsOfManager : (SameParts : ManagerState Global CLIENT MANAGER → ManagerState Global CLIENT MANAGER → Type 0) →
    (before now : ManagerHandle) → Type 0
KeepsOfManager SameParts before now =
    Keeps (λ h k. SameManager h.side k.side × SameParts h.side k.side) before.owned.held now.owned.held × (now.bridge ≡ before.bridge)

-- all but the ends of A, C and E, or all but those of B and D, are the same
abbrev pub same_but_client_sends : ClientState Global CLIENT MANAGER → ClientState Global CLIENT MANAGER → Type 0
same_but_client_sends s t = t ≡ record s { a = t.a; c = t.c; e = t.e }

abbrev pub same_but_client_takes : ClientState Global CLIENT MANAGER → ClientState Global CLIENT MANAGER → Type 0
same_but_client_takes s t = t ≡ record s { b = t.b; d = t.d }

abbrev pub same_but_manager_sends : ManagerState Global CLIENT MANAGER → ManagerState Global CLIENT MANAGER → Type 0
same_but_manager_sends s t = t ≡ record s { b = t.b; d = t.d }

abbrev pub same_but_manager_takes : ManagerState Global CLIENT MANAGER → ManagerState Global CLIENT MANAGER → Type 0
same_but_manager_takes s t = t ≡ record s { a = t.a; c = t.c; e = t.e }

-- no beat moved at an end: what is staged, what was sent and whether the channel is closed are the same, or what is in
-- the inbox and what was received
abbrev pub SendStays : {K A H : Type 0} {v : ℕ} → (s t : Sending K A H v) → Type 0
SendStays s t = (t.stage ≡ s.stage) × (t.closed ≡ s.closed) × (sent t ≡ sent s)

abbrev pub TakeStays : {K A H : Type 0} {v : ℕ} → (s t : Taking K A H v) → Type 0
TakeStays s t = (t.inbox ≡ s.inbox) × (received t ≡ received s)

-- no beat moved at a side
pub record ClientStays (s t : ClientState Global CLIENT MANAGER) : Type 0 where
  pub a : SendStays s.a t.a
  pub b : TakeStays s.b t.b
  pub c : SendStays s.c t.c
  pub d : TakeStays s.d t.d
  pub e : SendStays s.e t.e
  pub book : t.book ≡ s.book

pub record ManagerStays (s t : ManagerState Global CLIENT MANAGER) : Type 0 where
  pub a : TakeStays s.a t.a
  pub b : SendStays s.b t.b
  pub c : TakeStays s.c t.c
  pub d : SendStays s.d t.d
  pub e : TakeStays s.e t.e
  pub book : t.book ≡ s.book

-- the channels that the held sides send
abbrev pub sends_a : SendingChannel (ClientState Global CLIENT MANAGER) (ClientPast CLIENT MANAGER) HeadA CLIENT MANAGER
sends_a = ports.sends_a client_side

abbrev pub sends_b : SendingChannel (ManagerState Global CLIENT MANAGER) (ManagerPast CLIENT MANAGER) HeadB MANAGER CLIENT
sends_b = ports.sends_b manager_side

abbrev pub sends_c : SendingChannel (ClientState Global CLIENT MANAGER) (ClientPast CLIENT MANAGER) HeadC CLIENT MANAGER
sends_c = ports.sends_c client_side

abbrev pub sends_d : SendingChannel (ManagerState Global CLIENT MANAGER) (ManagerPast CLIENT MANAGER) HeadD MANAGER CLIENT
sends_d = ports.sends_d manager_side

abbrev pub sends_e : SendingChannel (ClientState Global CLIENT MANAGER) (ClientPast CLIENT MANAGER) HeadE CLIENT MANAGER
sends_e = ports.sends_e client_side

-- the channels that the held sides take
abbrev pub takes_a : TakingChannel (ManagerState Global CLIENT MANAGER) (ManagerPast CLIENT MANAGER) HeadA MANAGER
takes_a = ports.takes_a manager_side

abbrev pub takes_b : TakingChannel (ClientState Global CLIENT MANAGER) (ClientPast CLIENT MANAGER) HeadB CLIENT
takes_b = ports.takes_b client_side

abbrev pub takes_c : TakingChannel (ManagerState Global CLIENT MANAGER) (ManagerPast CLIENT MANAGER) HeadC MANAGER
takes_c = ports.takes_c manager_side

abbrev pub takes_d : TakingChannel (ClientState Global CLIENT MANAGER) (ClientPast CLIENT MANAGER) HeadD CLIENT
takes_d = ports.takes_d client_side

abbrev pub takes_e : TakingChannel (ManagerState Global CLIENT MANAGER) (ManagerPast CLIENT MANAGER) HeadE MANAGER
takes_e = ports.takes_e manager_side

-- the beats of an inbox of a side, if one is held: those that it has fetched on a channel and not yet taken
abbrev pub waiting : {S A : Type 0} → (inbox : S → List A) → Option S → List A
waiting inbox None = []
waiting inbox (Some h) = inbox h

abbrev pub inbox_a : Option ManagerHeld → List (BeatOf HeadA MANAGER)
inbox_a = waiting (λ h. h.side.a.inbox)

abbrev pub inbox_b : Option ClientHeld → List (BeatOf HeadB CLIENT)
inbox_b = waiting (λ h. h.side.b.inbox)

abbrev pub inbox_c : Option ManagerHeld → List (BeatOf HeadC MANAGER)
inbox_c = waiting (λ h. h.side.c.inbox)

abbrev pub inbox_d : Option ClientHeld → List (BeatOf HeadD CLIENT)
inbox_d = waiting (λ h. h.side.d.inbox)

abbrev pub inbox_e : Option ManagerHeld → List (BeatOf HeadE MANAGER)
inbox_e = waiting (λ h. h.side.e.inbox)

-- a take of the first beat of an inbox, which C receives, with the result whether there was one. The past is extended
-- by the beat taken. If there was none, nothing is written
pub record Takes {S P : Type 0} (Holds : Option S → P → Type 0) {H : Type 0} {w : ℕ} (r : Rules H) (fields_of : BeatOf H w → BeatFields)
    (inbox : Option S → List (BeatOf H w)) (after : List (BeatOf H w) → P → P) (before now : Option S)
    (unwritten written : BeatFields) (old_bytes bytes : List ℕ) (answer : Bool) : Type 0 where
  pub nothing : before ≡ None → (answer ≡ false) × (now ≡ None)
  pub taken : (x : P) → Holds before x → Holds now (after (take 1 (inbox before)) x)
  pub told : Tells fields_of (inbox before) written bytes answer
  pub lawful : answer ≡ true → IfSome (slice_get (inbox before) 0) (λ beat. IsLawfulBeat r beat)
  pub none : answer ≡ false → (written ≡ unwritten) × (bytes ≡ old_bytes)

-- the effect of a call on the held side that moves `count` beats; 0 if none is held
abbrev pub Does : {S : Type 0} → (How : S → S → ℕ → Type 0) → (before now : Option S) (count : ℕ) → Type 0
Does How None s count = (s ≡ None) × (count ≡ 0)
Does How (Some h) None count = ⊥
Does How (Some h) (Some k) count = How h k count

-- a call that moves `count` beats in this way, and the past after it
pub record Moves {S P : Type 0} (Holds : Option S → P → Type 0) (How : S → S → ℕ → Type 0) (after : Option S → Option S → P → P)
    (before now : Option S) (count : ℕ) : Type 0 where
  pub moves : Does How before now count
  pub stands : (x : P) → Holds before x → Holds now (after before now x)

-- a side moves staged beats into its rings, or beats from the other side's rings into its inboxes
abbrev pub ClientPumps : ClientHeld → ClientHeld → ℕ → Type 0
ClientPumps h k count =
    Pumps h.side.a k.side.a × Pumps h.side.c k.side.c × Pumps h.side.e k.side.e
    × (count ≡ pump_count h.side.a k.side.a + pump_count h.side.c k.side.c + pump_count h.side.e k.side.e)

abbrev pub ManagerPumps : ManagerHeld → ManagerHeld → ℕ → Type 0
ManagerPumps h k count =
    Pumps h.side.b k.side.b × Pumps h.side.d k.side.d
    × (count ≡ pump_count h.side.b k.side.b + pump_count h.side.d k.side.d)

abbrev pub ClientFetches : ClientHeld → ClientHeld → ℕ → Type 0
ClientFetches h k count =
    Fetches h.side.b k.side.b × Fetches h.side.d k.side.d
    × (count ≡ fetch_count h.side.b k.side.b + fetch_count h.side.d k.side.d)

abbrev pub ManagerFetches : ManagerHeld → ManagerHeld → ℕ → Type 0
ManagerFetches h k count =
    Fetches h.side.a k.side.a × Fetches h.side.c k.side.c × Fetches h.side.e k.side.e
    × (count ≡ fetch_count h.side.a k.side.a + fetch_count h.side.c k.side.c + fetch_count h.side.e k.side.e)

-- the past after a pump, given the side before and after it
abbrev pub pumped : {S P : Type 0} → (pumps : S → S → P → P) → (before now : Option S) → P → P
pumped pumps None s x = x
pumped pumps (Some h) None x = x
pumped pumps (Some h) (Some k) x = pumps h k x

abbrev pub client_pumped : (before now : Option ClientHeld) → ClientPast CLIENT MANAGER → ClientPast CLIENT MANAGER
client_pumped = pumped (λ h k x. client_pumps h.side k.side x)

abbrev pub manager_pumped : (before now : Option ManagerHeld) → ManagerPast CLIENT MANAGER → ManagerPast CLIENT MANAGER
manager_pumped = pumped (λ h k x. manager_pumps h.side k.side x)

-- two sides may meet: if both are held, they are of one bridge
abbrev pub MayMeet : Option ClientHeld → Option ManagerHeld → Type 0
MayMeet None t = Unit
MayMeet (Some s) None = Unit
MayMeet (Some s) (Some t) = AreSides s.side t.side

-- two sides have met: each channel is one crossing, to which a list of events leads. Both links obey the protocol's
-- rules, each at its own width: the beats that came out obey the rules that an offer is held to
pub record MeetLegally (s : ClientState Global CLIENT MANAGER) (t : ManagerState Global CLIENT MANAGER) (x : ClientPast CLIENT MANAGER)
    (y : ManagerPast CLIENT MANAGER) : Type 0 where
  pub meets : SidesMeet s t x y
  -- no beat of B, C or E that was taken has a fault after the beats before it
  pub b : HasNoFaults rules_b x.b
  pub c : HasNoFaults rules_c y.c
  pub e : HasNoFaults rules_e y.e
  -- on A and D both links have obeyed the rules, whatever each side did since the last meeting
  pub obeys : ObeysRules x.history × ObeysRules y.history
  -- so have new links, and links that have obeyed them so far still do after later calls of each side, if these take no
  -- more of A and D than had arrived at that side by now
  pub begins : ObeysRules {w = CLIENT} [] × ObeysRules {w = MANAGER} []
  pub goes_on : ObeysRules x.history × ObeysRules y.history → (s' : ClientState Global CLIENT MANAGER) (t' : ManagerState Global CLIENT MANAGER)
      (x' : ClientPast CLIENT MANAGER) (y' : ManagerPast CLIENT MANAGER) → WentOn s s' t t' x x' y y' →
      ObeysRules x'.history × ObeysRules y'.history

abbrev pub HaveMet : Option ClientHeld → Option ManagerHeld → ClientPast CLIENT MANAGER → ManagerPast CLIENT MANAGER → Type 0
HaveMet None t x y = ⊥
HaveMet (Some s) None x y = ⊥
HaveMet (Some s) (Some t) x y = MeetLegally s.side t.side x y

-- the number of waiting far beats on a channel whose sides have met, and on all five
abbrev pub beat_counts : {K A H : Type 0} {v : ℕ} → Sending K A H v → Taking K A H v → BeatCounts
beat_counts s t = record { staged = length s.stage; in_ring = length (known_items t); inbox = length t.inbox }

abbrev pub AreCounted : Option ClientHeld → Option ManagerHeld → ChannelCounts → Type 0
AreCounted None t counts = ⊥
AreCounted (Some s) None counts = ⊥
AreCounted (Some s) (Some t) counts = counts ≡ record {
  a = beat_counts s.side.a t.side.a;
  b = beat_counts t.side.b s.side.b;
  c = beat_counts s.side.c t.side.c;
  d = beat_counts t.side.d s.side.d;
  e = beat_counts s.side.e t.side.e;
}

-- both sides of a bridge know all of the rings: the beats in those that they take from, and the free positions of those
-- that they send to
abbrev pub AreKnown : Option ClientHeld → Option ManagerHeld → Type 0
AreKnown None t = ⊥
AreKnown (Some s) None = ⊥
AreKnown (Some s) (Some t) = KnownSides s.side t.side
