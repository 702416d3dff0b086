-- Both sides of one bridge behind two handles, in one thread: the status of their meeting, how they settle, and that every
-- accepted beat arrives (this project's choice).
use Rattle.std.specs.Prelude.{◌≡◌, ◌<◌, ◌++◌, ℕ, Bool, Option, None, Some, List, [], length, if◌then◌else◌}
use Rattle.std.specs.Global.{Global}
use Rattle.tl_msg.specs.Rules.{Rules}
use Rattle.tl_msg.specs.Tables.{rules_a, rules_b, rules_c, rules_d, rules_e}
use Rattle.tl_msg.specs.declared.beat.BeatOf.{BeatOf}
use Rattle.tl_convert.specs.Due.{due}
use Rattle.tl_ring.specs.Crossing.{World, inbox_room}
use Rattle.tl_ring.specs.Ends.{Taking}
use Rattle.tl_settle.specs.Histories.{asked, answered}
use Rattle.tl_sides.specs.ArrivingSides.{AllDueCame}
use Rattle.tl_sides.specs.Sides.{ClientState, ManagerState, ClientPast, ManagerPast}
use Rattle.tl_c_beats.specs.Receipts.{same_bridge}
use Rattle.tl_c_beats.specs.Settling.{SidesSettle, StillSides}
use Rattle.tl_c_beats.specs.declared.answers.TheConstants.{NOT_OPEN, BRIDGE_MISMATCH}
use Rattle.tl_c.specs.declared.client_handle.ClientHandle.{ClientHandle}
use Rattle.tl_c.specs.declared.manager_handle.ManagerHandle.{ManagerHandle}
use Rattle.tl_c.specs.declared.held.ClientHeld.{ClientHeld}
use Rattle.tl_c.specs.declared.held.ManagerHeld.{ManagerHeld}
use Rattle.tl_c.specs.declared.widths.TheConstants.{CLIENT, MANAGER}
use Rattle.tl_c.specs.Calls.{MeetLegally}

-- the status of a meeting, if the numbers of the two sides and of their openings are the same or not
abbrev pub answer_of_two : {S T : Type 0} → Option S → Option T → (same : Bool) → ℕ
answer_of_two None t same = NOT_OPEN
answer_of_two (Some s) None same = NOT_OPEN
answer_of_two (Some s) (Some t) same = if same then 0 else BRIDGE_MISMATCH

abbrev pub meeting_answer : ClientHandle → ManagerHandle → ℕ
meeting_answer client manager = answer_of_two client.owned.held manager.owned.held (same_bridge client.bridge manager.bridge)

-- two sides have settled: some staged beats have moved on, and then the sides have met. Both links obey the protocol's
-- rules, as at every meeting
pub record SettleLegally (s : ClientState Global CLIENT MANAGER) (t : ManagerState Global CLIENT MANAGER) (x : ClientPast CLIENT MANAGER)
    (y : ManagerPast CLIENT MANAGER) : Type 0 where
  pub settles : SidesSettle s t x y
  pub legal : MeetLegally s t settles.client settles.manager

-- the same of the sides that two handles hold
abbrev pub HaveSettled : Option ClientHeld → Option ManagerHeld → ClientPast CLIENT MANAGER → ManagerPast CLIENT MANAGER → Type 0
HaveSettled None t x y = ⊥
HaveSettled (Some s) None x y = ⊥
HaveSettled (Some s) (Some t) x y = SettleLegally s.side t.side x y

abbrev pub AreStill : Option ClientHeld → Option ManagerHeld → Type 0
AreStill None t = ⊥
AreStill (Some s) None = ⊥
AreStill (Some s) (Some t) = StillSides s.side t.side

-- on a channel, the beats taken and then those in the inbox are all that the accepted beats made due, unless the inbox is full
abbrev pub BringsAllDue : {K A H : Type 0} → Rules H → {w v : ℕ} → Taking K A H v → World H w v → (taken : List (BeatOf H v)) → Type 0
BringsAllDue r {w} {v} t x taken = length t.inbox < inbox_room → taken ++ t.inbox ≡ due r w v x.accepted x.homes

-- no inbox has a beat
pub record NoneWaits (s : ClientState Global CLIENT MANAGER) (t : ManagerState Global CLIENT MANAGER) : Type 0 where
  pub a : t.a.inbox ≡ []
  pub b : s.b.inbox ≡ []
  pub c : t.c.inbox ≡ []
  pub d : s.d.inbox ≡ []
  pub e : t.e.inbox ≡ []

-- Every accepted beat arrives if a bench settles both sides and takes everything, again and again. On each channel, each
-- settling followed by a take of everything takes all beats that are due, or as many as an inbox holds. The pasts are
-- those before the settling, which accepts and takes no beat.
pub record BeatsArrive (s : ClientState Global CLIENT MANAGER) (t : ManagerState Global CLIENT MANAGER) (x : ClientPast CLIENT MANAGER)
    (y : ManagerPast CLIENT MANAGER) : Type 0 where
  pub a : BringsAllDue rules_a t.a x.a (asked y.history)
  pub b : BringsAllDue rules_b s.b y.b x.b
  pub c : BringsAllDue rules_c t.c x.c y.c
  pub d : BringsAllDue rules_d s.d y.d (answered x.history)
  pub e : BringsAllDue rules_e t.e x.e y.e
  -- so if no inbox has a beat, all beats that the accepted ones made due were taken, on every channel
  pub all : NoneWaits s t → AllDueCame x y

-- the same of the sides that two handles hold
abbrev pub HaveArrived : Option ClientHeld → Option ManagerHeld → ClientPast CLIENT MANAGER → ManagerPast CLIENT MANAGER → Type 0
HaveArrived None t x y = ⊥
HaveArrived (Some s) None x y = ⊥
HaveArrived (Some s) (Some t) x y = BeatsArrive s.side t.side x y
