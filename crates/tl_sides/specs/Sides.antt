-- The logical view of each side of the bridge. A, C and E cross from the client's side, at width C, to the manager's,
-- at width M; B and D cross back. A side represents only its own past: only a meeting shows how far the beats that it
-- sent have come, and which ones will arrive (this project's choice).
use Rattle.std.proofs.Common.{◌≡◌, ◌++◌, ℕ, List, [], map, refl}
use Rattle.tl_sides.specs.Words.{rules_a, rules_b, rules_c, rules_d, rules_e, ChA, ChB, ChC, ChD, ChE, HeadA, HeadB, HeadC, HeadD, HeadE, BeatOf}
use Rattle.tl_sides.specs.Words.{Outgoing, World, empty, Sending, Taking, SendHalf, TakeHalf, as_pipe, outbox_of, sending_of, taking_of, Sends, Takes}
use Rattle.tl_sides.specs.Words.{Meets, ArePair, SameSend, SameTake, known_free, Event, Ask, Answer, asked, answered, manager_homes}
use Rattle.tl_sides.specs.Words.{sent_times, received_times, clock}
use Rattle.tl_ring.specs.declared.stamped.Stamped.{Stamped}
use Rattle.tl_settle.specs.Books.{Client, Manager, KnowsClient, KnowsManager}
use Rattle.tl_settle.specs.Clocks.{Sent, KeepsTime, client_way, manager_way}
use Rattle.tl_settle.specs.Obeying.{RequestsObey, ResponsesObey}
use Rattle.tl_settle.specs.OneOrder.{InOneOrder}
use Rattle.tl_sides.specs.Calls.{Holds}
use Rattle.tl_sides.specs.Ports.{ClientNow, ManagerNow, PortPast}
use Rattle.tl_sides.specs.Ends.{after_pump, IsIdle}

-- the current state of a side, without its history: the ends of its channels, and its book
pub record ClientState (A : Type 0) (C M : ℕ) : Type 0 where
  pub a : Sending ChA A HeadA M
  pub b : Taking ChB A HeadB C
  pub c : Sending ChC A HeadC M
  pub d : Taking ChD A HeadD C
  pub e : Sending ChE A HeadE M
  pub book : Client

pub record ManagerState (A : Type 0) (C M : ℕ) : Type 0 where
  pub a : Taking ChA A HeadA M
  pub b : Sending ChB A HeadB C
  pub c : Taking ChC A HeadC M
  pub d : Sending ChD A HeadD C
  pub e : Taking ChE A HeadE M
  pub book : Manager

-- the outbox of a sending end
abbrev pub box_of : {K A H : Type 0} {v : ℕ} → Sending K A H v → Outgoing H v
box_of s = outbox_of (as_pipe s)

-- the past of a channel of which only the taken beats are known
abbrev pub only_taken : {H : Type 0} {w v : ℕ} → List (BeatOf H v) → World H w v
only_taken bs = record (empty 0) { taken = bs }

-- a side consists of its port and its halves of the five rings
abbrev pub client_state_of : {A : Type 0} {C M : ℕ} → ClientNow C M → SendHalf ChA A HeadA M → TakeHalf ChB A HeadB C → SendHalf ChC A HeadC M →
    TakeHalf ChD A HeadD C → SendHalf ChE A HeadE M → ClientState A C M
client_state_of p a b c d e = record {
  a = sending_of p.a a;
  b = taking_of p.b b;
  c = sending_of p.c c;
  d = taking_of p.d d;
  e = sending_of p.e e;
  book = p.book;
}

abbrev pub manager_state_of : {A : Type 0} {C M : ℕ} → ManagerNow C M → TakeHalf ChA A HeadA M → SendHalf ChB A HeadB C → TakeHalf ChC A HeadC M →
    SendHalf ChD A HeadD C → TakeHalf ChE A HeadE M → ManagerState A C M
manager_state_of p a b c d e = record {
  a = taking_of p.a a;
  b = sending_of p.b b;
  c = taking_of p.c c;
  d = sending_of p.d d;
  e = taking_of p.e e;
  book = p.book;
}

-- The past of a side: its history of A and D, the crossing of each channel that it sends, as if each beat were taken as
-- soon as it was sent, and the beats taken of each other channel. The beats taken of A or D are in the history.
pub record ClientPast (C M : ℕ) : Type 0 where
  pub history : List (Event C)
  pub a : World HeadA C M
  pub b : List (BeatOf HeadB C)
  pub c : World HeadC C M
  pub e : World HeadE C M

pub record ManagerPast (C M : ℕ) : Type 0 where
  pub history : List (Event M)
  pub b : World HeadB M C
  pub c : List (BeatOf HeadC M)
  pub d : World HeadD M C
  pub e : List (BeatOf HeadE M)

-- the beats of a ring with the times at which they were sent
abbrev pub with_times : {X : Type 0} → List (Stamped X) → List (Sent X)
with_times ss = map (λ s. record { item = s.item; time = s.stamp.time }) ss

-- a side represents a past: the history has the beats of A and D that it accepted and took, and its book is kept up to
-- the history
pub record ClientStandsFor {A : Type 0} {C M : ℕ} (s : ClientState A C M)
    (x : ClientPast C M) : Type 0 where
  pub a : Sends rules_a s.a x.a
  pub b : Takes s.b x.b
  pub c : Sends rules_c s.c x.c
  pub d : Takes s.d (answered x.history)
  pub e : Sends rules_e s.e x.e
  pub accepted : asked x.history ≡ x.a.accepted
  -- its own offers obeyed the rules
  pub requests : RequestsObey x.history
  -- the side has kept its clock, which is that of its end of D
  pub time : KeepsTime client_way x.history (with_times (sent_times s.a)) (with_times (received_times s.d)) (clock s.d)
  pub book : KnowsClient s.book x.history

pub record ManagerStandsFor {A : Type 0} {C M : ℕ} (s : ManagerState A C M)
    (x : ManagerPast C M) : Type 0 where
  pub a : Takes s.a (asked x.history)
  pub b : Sends rules_b s.b x.b
  pub c : Takes s.c x.c
  pub d : Sends rules_d s.d x.d
  pub e : Takes s.e x.e
  pub accepted : answered x.history ≡ x.d.accepted
  -- the home of each message of D is the one that the side's history gave it
  pub homes : manager_homes x.history ≡ x.d.homes
  -- its own offers obeyed the rules
  pub responses : ResponsesObey x.history
  -- the side has kept its clock, which is that of its end of A
  pub time : KeepsTime manager_way x.history (with_times (sent_times s.d)) (with_times (received_times s.a)) (clock s.a)
  pub book : KnowsManager s.book x.history

module _ {C M : ℕ} where
  -- nothing has happened
  abbrev pub new_client : (room : ℕ) → ClientPast C M
  new_client room = record { history = []; a = empty room; b = []; c = empty room; e = empty room }

  abbrev pub new_manager : (room : ℕ) → ManagerPast C M
  new_manager room = record { history = []; b = empty room; c = []; d = empty room; e = [] }

  -- these beats of a channel are taken
  abbrev pub client_takes_b : List (BeatOf HeadB C) → ClientPast C M → ClientPast C M
  client_takes_b bs x = record x { b = x.b ++ bs }

  abbrev pub client_takes_d : List (BeatOf HeadD C) → ClientPast C M → ClientPast C M
  client_takes_d bs x = record x { history = x.history ++ map Answer bs }

  abbrev pub manager_takes_a : List (BeatOf HeadA M) → ManagerPast C M → ManagerPast C M
  manager_takes_a bs x = record x { history = x.history ++ map Ask bs }

  abbrev pub manager_takes_c : List (BeatOf HeadC M) → ManagerPast C M → ManagerPast C M
  manager_takes_c bs x = record x { c = x.c ++ bs }

  abbrev pub manager_takes_e : List (BeatOf HeadE M) → ManagerPast C M → ManagerPast C M
  manager_takes_e bs x = record x { e = x.e ++ bs }

module _ {A : Type 0} {C M : ℕ} where
  -- The port in a side. Its halves of the rings are unchanged by an offer, a close and a take.
  abbrev pub client_side : Holds (ClientState A C M) (ClientPast C M) (ClientNow C M) (PortPast C M C)
  client_side = record {
    Stands = ClientStandsFor;
    port = λ s. record { a = box_of s.a; b = s.b.inbox; c = box_of s.c; d = s.d.inbox; e = box_of s.e; book = s.book };
    with_port = λ p s. client_state_of p s.a.producer s.b.consumer s.c.producer s.d.consumer s.e.producer;
    past = λ x. record { history = x.history; a = x.a; b = only_taken x.b; c = x.c; d = only_taken (answered x.history); e = x.e };
    with_past = λ y _. record { history = y.history; a = y.a; b = y.b.taken; c = y.c; e = y.e };
    same_port = λ _. refl;
    same_past = λ _. refl;
    new_port = λ _ _. refl;
  }

  abbrev pub manager_side : Holds (ManagerState A C M) (ManagerPast C M) (ManagerNow C M) (PortPast C M M)
  manager_side = record {
    Stands = ManagerStandsFor;
    port = λ s. record { a = s.a.inbox; b = box_of s.b; c = s.c.inbox; d = box_of s.d; e = s.e.inbox; book = s.book };
    with_port = λ p s. manager_state_of p s.a.consumer s.b.producer s.c.consumer s.d.producer s.e.consumer;
    past = λ x. record { history = x.history; a = only_taken (asked x.history); b = x.b; c = only_taken x.c; d = x.d; e = only_taken x.e };
    with_past = λ y _. record { history = y.history; b = y.b; c = y.c.taken; d = y.d; e = y.e.taken };
    same_port = λ _. refl;
    same_past = λ _. refl;
    new_port = λ _ _. refl;
  }

  -- a side pumps: each crossing advances by the number of beats that left its stage
  abbrev pub client_pumps : (before after : ClientState A C M) → ClientPast C M → ClientPast C M
  client_pumps s s' x = record x {
    a = after_pump s.a s'.a x.a;
    c = after_pump s.c s'.c x.c;
    e = after_pump s.e s'.e x.e;
  }

  abbrev pub manager_pumps : (before after : ManagerState A C M) → ManagerPast C M → ManagerPast C M
  manager_pumps s s' x = record x { b = after_pump s.b s'.b x.b; d = after_pump s.d s'.d x.d }

  -- both sides are of one bridge: their ends are pairs
  pub record AreSides (s : ClientState A C M) (t : ManagerState A C M) : Type 0 where
    pub a : ArePair s.a t.a
    pub b : ArePair t.b s.b
    pub c : ArePair s.c t.c
    pub d : ArePair t.d s.d
    pub e : ArePair s.e t.e

  -- a new side knows all positions of its rings to be free, and its inboxes are empty
  pub record IsNewClient (room : ℕ) (s : ClientState A C M) : Type 0 where
    pub a : known_free s.a ≡ room
    pub b : IsIdle s.b
    pub c : known_free s.c ≡ room
    pub d : IsIdle s.d
    pub e : known_free s.e ≡ room

  pub record IsNewManager (room : ℕ) (t : ManagerState A C M) : Type 0 where
    pub a : IsIdle t.a
    pub b : known_free t.b ≡ room
    pub c : IsIdle t.c
    pub d : known_free t.d ≡ room
    pub e : IsIdle t.e

  -- the same side of the same bridge
  pub record SameClient (s s' : ClientState A C M) : Type 0 where
    pub a : SameSend s.a s'.a
    pub b : SameTake s.b s'.b
    pub c : SameSend s.c s'.c
    pub d : SameTake s.d s'.d
    pub e : SameSend s.e s'.e

  pub record SameManager (t t' : ManagerState A C M) : Type 0 where
    pub a : SameTake t.a t'.a
    pub b : SameSend t.b t'.b
    pub c : SameTake t.c t'.c
    pub d : SameSend t.d t'.d
    pub e : SameTake t.e t'.e

  -- The facts that a meeting of both sides shows about the pasts that they represented. Each still represents it, and
  -- each channel is one crossing, to which a list of events leads. So the beats taken, followed by those in inbox, ring
  -- and stage, are the far layout of the accepted beats.
  pub record SidesMeet (s : ClientState A C M) (t : ManagerState A C M) (x : ClientPast C M)
      (y : ManagerPast C M) : Type 0 where
    pub client : ClientStandsFor s x
    pub manager : ManagerStandsFor t y
    pub a : Meets rules_a s.a t.a x.a (asked y.history)
    pub b : Meets rules_b t.b s.b y.b x.b
    pub c : Meets rules_c s.c t.c x.c y.c
    pub d : Meets rules_d t.d s.d y.d (answered x.history)
    pub e : Meets rules_e s.e t.e x.e y.e
    -- the events of A and D of both sides are in one order, in which each beat was taken only after the beats that made it
    -- due were accepted, whatever each side took since the last meeting
    pub order : InOneOrder x.history y.history
