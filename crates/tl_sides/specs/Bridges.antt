-- The logical view of the bridge of both sides in one thread: five crossings, and the history of A and D at each side.
-- A, C and E cross from the client's side, at width C, to the manager's, at width M; B and D cross back (this project's
-- choice).
use Rattle.std.proofs.Common.{◌≡◌, ◌-◌, ◌+◌, ℕ, List, [], length, min, refl}
use Rattle.tl_sides.specs.Words.{rules_a, rules_b, rules_c, rules_d, rules_e, HeadA, HeadB, HeadC, HeadD, HeadE, World, empty, pushed}
use Rattle.tl_sides.specs.Words.{popped, inbox_room, Outgoing, Pipe, outbox_of, Standing, Event, asked, answered, manager_homes}
use Rattle.tl_ring.specs.Pipe as piping
use Rattle.tl_settle.specs.Books.{Client, Manager, KnowsClient, KnowsManager}
use Rattle.tl_settle.specs.Obeying.{ObeysRules}
use Rattle.tl_settle.specs.OneOrder.{InOneOrder}
use Rattle.tl_sides.specs.Calls.{Holds}
use Rattle.tl_sides.specs.Ports.{ClientNow, ManagerNow, PortPast}

-- the current state of a bridge, without its history
pub record Bridge (C M : ℕ) : Type 0 where
  pub a : Pipe HeadA M
  pub b : Pipe HeadB C
  pub c : Pipe HeadC M
  pub d : Pipe HeadD C
  pub e : Pipe HeadE M
  -- the book of each side
  pub client : Client
  pub manager : Manager

-- the past of a bridge: the history of each side, and the crossing of each channel
pub record Past (C M : ℕ) : Type 0 where
  pub client : List (Event C)
  pub manager : List (Event M)
  pub a : World HeadA C M
  pub b : World HeadB M C
  pub c : World HeadC C M
  pub d : World HeadD M C
  pub e : World HeadE C M

-- a bridge represents a past
pub record StandsFor {C M : ℕ} (s : Bridge C M) (x : Past C M) : Type 0 where
  -- each of its pipes represents the crossing of the past
  pub a : piping.StandsFor rules_a s.a x.a
  pub b : piping.StandsFor rules_b s.b x.b
  pub c : piping.StandsFor rules_c s.c x.c
  pub d : piping.StandsFor rules_d s.d x.d
  pub e : piping.StandsFor rules_e s.e x.e
  -- the histories agree with the crossings of A and D
  pub client_asked : asked x.client ≡ x.a.accepted
  pub client_answered : answered x.client ≡ x.d.taken
  pub manager_asked : asked x.manager ≡ x.a.taken
  pub manager_answered : answered x.manager ≡ x.d.accepted
  -- the home of each message of D is the one that the manager's history gave it
  pub homes : manager_homes x.manager ≡ x.d.homes
  -- each side's book is kept up to its history
  pub client : KnowsClient s.client x.client
  pub manager : KnowsManager s.manager x.manager
  -- legal in, legal out: at each side, all beats that went in or came out obey the rules that an offer is held to
  pub client_obeys : ObeysRules x.client
  pub manager_obeys : ObeysRules x.manager
  -- both histories are in one order, in which each beat was taken only after the beats that made it due were accepted
  pub order : InOneOrder x.client x.manager

-- a pipe with another sender's part
abbrev pub with_outbox : {H : Type 0} {v : ℕ} → Outgoing H v → Pipe H v → Pipe H v
with_outbox o p = record p { converter = o.converter; stage = o.stage; closed = o.closed }

-- the number of beats that a pump moves, and that a fetch moves
abbrev pub pump_count : {H : Type 0} {v : ℕ} → Pipe H v → ℕ
pump_count p = min (length p.stage) (p.room - length p.ring)

abbrev pub fetch_count : {H : Type 0} {v : ℕ} → Pipe H v → ℕ
fetch_count p = min (length p.ring) (inbox_room - length p.inbox)

-- the number of beats at each place of a pipe
pub record IsStanding {H : Type 0} {v : ℕ} (p : Pipe H v) (s : Standing) : Type 0 where
  pub staged : s.staged ≡ length p.stage
  pub in_ring : s.in_ring ≡ length p.ring
  pub inbox : s.inbox ≡ length p.inbox

module _ {C M : ℕ} where
  -- nothing has happened
  abbrev pub nothing_yet : (room : ℕ) → Past C M
  nothing_yet room = record {
    client = [];
    manager = [];
    a = empty room;
    b = empty room;
    c = empty room;
    d = empty room;
    e = empty room;
  }

  -- the port of each side in a bridge
  abbrev pub bridge_client : Holds (Bridge C M) (Past C M) (ClientNow C M) (PortPast C M C)
  bridge_client = record {
    Stands = StandsFor;
    port = λ s. record { a = outbox_of s.a; b = s.b.inbox; c = outbox_of s.c; d = s.d.inbox; e = outbox_of s.e; book = s.client };
    with_port = λ p s. record s {
      a = with_outbox p.a s.a;
      b = record s.b { inbox = p.b };
      c = with_outbox p.c s.c;
      d = record s.d { inbox = p.d };
      e = with_outbox p.e s.e;
      client = p.book;
    };
    past = λ x. record { history = x.client; a = x.a; b = x.b; c = x.c; d = x.d; e = x.e };
    with_past = λ y x. record x { client = y.history; a = y.a; b = y.b; c = y.c; d = y.d; e = y.e };
    same_port = λ _. refl;
    same_past = λ _. refl;
    new_port = λ _ _. refl;
  }

  abbrev pub bridge_manager : Holds (Bridge C M) (Past C M) (ManagerNow C M) (PortPast C M M)
  bridge_manager = record {
    Stands = StandsFor;
    port = λ s. record { a = s.a.inbox; b = outbox_of s.b; c = s.c.inbox; d = outbox_of s.d; e = s.e.inbox; book = s.manager };
    with_port = λ p s. record s {
      a = record s.a { inbox = p.a };
      b = with_outbox p.b s.b;
      c = record s.c { inbox = p.c };
      d = with_outbox p.d s.d;
      e = record s.e { inbox = p.e };
      manager = p.book;
    };
    past = λ x. record { history = x.manager; a = x.a; b = x.b; c = x.c; d = x.d; e = x.e };
    with_past = λ y x. record x { manager = y.history; a = y.a; b = y.b; c = y.c; d = y.d; e = y.e };
    same_port = λ _. refl;
    same_past = λ _. refl;
    new_port = λ _ _. refl;
  }

  -- a bridge pumps, or fetches, on all channels
  abbrev pub after_pump : Bridge C M → Past C M → Past C M
  after_pump s x = record x {
    a = pushed (pump_count s.a) x.a;
    b = pushed (pump_count s.b) x.b;
    c = pushed (pump_count s.c) x.c;
    d = pushed (pump_count s.d) x.d;
    e = pushed (pump_count s.e) x.e;
  }

  abbrev pub after_fetch : Bridge C M → Past C M → Past C M
  after_fetch s x = record x {
    a = popped (fetch_count s.a) x.a;
    b = popped (fetch_count s.b) x.b;
    c = popped (fetch_count s.c) x.c;
    d = popped (fetch_count s.d) x.d;
    e = popped (fetch_count s.e) x.e;
  }

  abbrev pub all_pumped : Bridge C M → ℕ
  all_pumped s = pump_count s.a + pump_count s.b + pump_count s.c + pump_count s.d + pump_count s.e

  abbrev pub all_fetched : Bridge C M → ℕ
  all_fetched s = fetch_count s.a + fetch_count s.b + fetch_count s.c + fetch_count s.d + fetch_count s.e
