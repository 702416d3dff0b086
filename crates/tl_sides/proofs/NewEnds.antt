-- The properties of both sides over new rings.
use Rattle.std.proofs.Common.{◌≡◌, ℕ, List, [], refl, ap}
use Rattle.tl_settle.proofs.Obeys.{requests_none, responses_none}
use Rattle.tl_sides.proofs.Words.{rules_a, rules_b, rules_c, rules_d, rules_e, ChA, ChB, ChC, ChD, ChE, HeadA, HeadB, HeadC, HeadD, HeadE}
use Rattle.tl_sides.proofs.Words.{BeatOf, IsOpen, Takes, sending_of, taking_of, sends_new, sent_times, received_times, clock}
use Rattle.tl_sides.proofs.Bridging.{masked_a, masked_b, masked_c, masked_d, masked_e}
use Rattle.tl_ring.specs.Ends.{SendHalf, TakeHalf, IsNewRing}
use Rattle.tl_ring.specs.Halves.{items}
use Rattle.tl_settle.specs.Clocks.{client_way, manager_way}
use Rattle.tl_sides.proofs.Times.{new_time}
use Rattle.tl_sides.specs.Ends.{IsIdle}
use Rattle.tl_sides.specs.Ports.{ClientNow, ClientIsNew, ManagerNow, ManagerIsNew}
use Rattle.tl_sides.specs.Sides.{client_state_of, manager_state_of}
use Rattle.tl_sides.specs.Inner.Making.{AreNewSides}

-- a taking end over a new ring
module _ {K A H : Type 0} {v : ℕ} (size : ℕ) (s : SendHalf K A H v) (t : TakeHalf K A H v) (ring : IsNewRing size s t)
    (inbox : List (BeatOf H v)) (none : inbox ≡ []) where
  none_taken : Takes (taking_of inbox t) []
  none_taken = rw none (ap items ring.none_received)

  idle : IsIdle (taking_of inbox t)
  idle = (ap items ring.none_known, none)

-- both sides over the sending halves, the taking halves, and the ports of new sides
pub new_sides : {A : Type 0} {C M : ℕ} (size : ℕ) (a : SendHalf ChA A HeadA M) (b : SendHalf ChB A HeadB C) (c : SendHalf ChC A HeadC M)
    (d : SendHalf ChD A HeadD C) (e : SendHalf ChE A HeadE M) (a' : TakeHalf ChA A HeadA M) (b' : TakeHalf ChB A HeadB C)
    (c' : TakeHalf ChC A HeadC M) (d' : TakeHalf ChD A HeadD C) (e' : TakeHalf ChE A HeadE M) →
    IsNewRing size a a' × IsNewRing size b b' × IsNewRing size c c' × IsNewRing size d d' × IsNewRing size e e' →
    (s : ClientNow C M) (t : ManagerNow C M) → ClientIsNew s → ManagerIsNew t →
    IsOpen s.a × IsOpen t.b × IsOpen s.c × IsOpen t.d × IsOpen s.e → (t.a ≡ []) × (s.b ≡ []) × (t.c ≡ []) × (s.d ≡ []) × (t.e ≡ []) →
    AreNewSides size (client_state_of s a b' c d' e) (manager_state_of t a' b c' d e')
new_sides size a b c d e a' b' c' d' e' rings s t client manager ready none = record {
  pair = record { a = rings.0.pair; b = rings.1.pair; c = rings.2.pair; d = rings.3.pair; e = rings.4.pair };
  client = record {
    a = sends_new rules_a masked_a (sending_of s.a a) size rings.0.some_room client.a ready.0.0 (ap items rings.0.none_sent) rings.0.room ready.0.1;
    b = none_taken size b b' rings.1 s.b none.1;
    c = sends_new rules_c masked_c (sending_of s.c c) size rings.2.some_room client.c ready.2.0 (ap items rings.2.none_sent) rings.2.room ready.2.1;
    d = none_taken size d d' rings.3 s.d none.3;
    e = sends_new rules_e masked_e (sending_of s.e e) size rings.4.some_room client.e ready.4.0 (ap items rings.4.none_sent) rings.4.room ready.4.1;
    accepted = refl;
    requests = requests_none;
    time = new_time client_way (sent_times (sending_of s.a a)) (received_times (taking_of s.d d')) (clock (taking_of s.d d')) rings.0.none_sent
        rings.3.none_received rings.3.starts;
    book = client.book;
  };
  manager = record {
    a = none_taken size a a' rings.0 t.a none.0;
    b = sends_new rules_b masked_b (sending_of t.b b) size rings.1.some_room manager.b ready.1.0 (ap items rings.1.none_sent) rings.1.room ready.1.1;
    c = none_taken size c c' rings.2 t.c none.2;
    d = sends_new rules_d masked_d (sending_of t.d d) size rings.3.some_room manager.d ready.3.0 (ap items rings.3.none_sent) rings.3.room ready.3.1;
    e = none_taken size e e' rings.4 t.e none.4;
    accepted = refl;
    homes = refl;
    responses = responses_none;
    time = new_time manager_way (sent_times (sending_of t.d d)) (received_times (taking_of t.a a')) (clock (taking_of t.a a')) rings.3.none_sent
        rings.0.none_received rings.0.starts;
    book = manager.book;
  };
  client_knows = record {
    a = rings.0.all_free;
    b = idle size b b' rings.1 s.b none.1;
    c = rings.2.all_free;
    d = idle size d d' rings.3 s.d none.3;
    e = rings.4.all_free;
  };
  manager_knows = record {
    a = idle size a a' rings.0 t.a none.0;
    b = rings.1.all_free;
    c = idle size c c' rings.2 t.c none.2;
    d = rings.3.all_free;
    e = idle size e e' rings.4 t.e none.4;
  };
}
