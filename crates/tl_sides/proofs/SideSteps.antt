-- Each call of a side is one of an outbox, an inbox or its book, or moves beats between these and its halves of rings.
use Rattle.std.proofs.Common.{◌≡◌, ◌≤◌, ◌+◌, ◌*◌, ◌-◌, ℕ, List, Option, Result, [], ◌++◌, length, map, take, drop, min, refl, sym, ap, subst}
use Rattle.std.proofs.Common.{◌∙◌, arith, append-nil, length-append}
use Rattle.std.proofs.lemmas.List.{length-drop}
use Rattle.tl_sides.proofs.Words.{Rules, rules_a, rules_b, rules_c, rules_d, rules_e, ChA, ChB, ChC, ChD, ChE, HeadA, HeadB, HeadC, HeadD, HeadE}
use Rattle.tl_sides.proofs.Words.{BeatOf, Outgoing, IsOpen, World, inbox_room, Sending, Taking, sending_of, taking_of, Sends, Takes}
use Rattle.tl_sides.proofs.Words.{Pushed, Fetched, Met, Meets, passed, received, known_free, known_items, STAGE_CAPACITY, Standing, sends_offered, sends_shut}
use Rattle.tl_sides.proofs.Words.{meets_of, cut_moves, Ask, Answer, asked, answered, manager_home, asked_answer}
use Rattle.tl_sides.proofs.Words.{answered_ask, SideFault, EndFault}
use Rattle.tl_sides.specs.Calls.{OffersBeat, ClosesChannel, TakesBeat}
use Rattle.tl_settle.proofs.Obeys.{requests_ask, requests_answers, responses_answer, responses_asks}
use Rattle.tl_sides.proofs.Lifting.{offer_lifted, close_lifted, take_lifted}
use Rattle.tl_sides.specs.Ports.{ClientNow, ManagerNow, Booked, outbox_sends, inbox_takes, sends_requests, sends_responses, takes_requests}
use Rattle.tl_sides.specs.Ports.{takes_responses}
use Rattle.tl_sides.specs.Ends.{Pumps, Fetches, AreStanding, pump_count, fetch_count, after_pump}
use Rattle.tl_sides.specs.Sides.{ClientState, ManagerState, ClientPast, ManagerPast, ClientStandsFor, ManagerStandsFor, AreSides, SidesMeet}
use Rattle.tl_sides.specs.Sides.{client_state_of, manager_state_of, client_pumps, manager_pumps}
use Rattle.tl_settle.specs.Books.{Client, Manager, KnowsClient, KnowsManager}
use Rattle.tl_sides.specs.Sides.{client_takes_b, client_takes_d, manager_takes_a, manager_takes_c, manager_takes_e}
use Rattle.tl_sides.specs.Sides.{client_side, manager_side}
use Rattle.tl_sides.specs.Ports.{sends_a, sends_b, sends_c, sends_d, sends_e, takes_a, takes_b, takes_c}
use Rattle.tl_sides.specs.Ports.{takes_d, takes_e}
use Rattle.tl_sides.specs.declared.client_side.ClientSide.TheInside as client
use Rattle.tl_sides.specs.declared.manager_side.ManagerSide.TheInside as manager
use Rattle.tl_sides.proofs.BridgeSteps.{asked_answers, answered_asks, homes_asks}
use Rattle.tl_sides.proofs.Bridging.{masked_a, masked_b, masked_c, masked_d, masked_e, away_of}
use Rattle.tl_sides.proofs.Draining.{answered-all, asked-all}
use Rattle.tl_sides.proofs.BoxSteps.{still_open}
use Rattle.std.proofs.Common.{take-append-drop}
use Rattle.tl_ring.specs.Ends.{known_times}
use Rattle.tl_ring.specs.Halves.{all_stamped}
use Rattle.tl_settle.proofs.Timing.{times_show_an_order}
use Rattle.tl_settle.specs.Clocks.{client_way, manager_way}
use Rattle.tl_sides.proofs.Words.{sent_times, received_times, clock}
use Rattle.tl_sides.proofs.Times.{client_accepts, client_sends, client_took, first_times, heard_time, manager_accepts, manager_sends, manager_took, same_time}
use Rattle.tl_sides.specs.Sides.{with_times}

-- a side is its port and its halves of the rings
abbrev pub client_side_of : {A : Type 0} {C M : ℕ} → client.Inside C M A → ClientState A C M
client_side_of q = client_state_of q.port q.a q.b.half q.c q.d.half q.e

abbrev pub manager_side_of : {A : Type 0} {C M : ℕ} → manager.Inside C M A → ManagerState A C M
manager_side_of q = manager_state_of q.port q.a.half q.b q.c.half q.d q.e.half

module _ {A : Type 0} {C M : ℕ} (q : client.Inside C M A) (x : ClientPast C M) (h : ClientStandsFor (client_side_of q) x) where
  -- all beats of the inboxes are taken
  pub client_takes_all : (s' : ClientNow C M) → s' ≡ record q.port { b = []; d = []; book = s'.book } →
      KnowsClient s'.book (x.history ++ map Answer q.port.d) →
      ClientStandsFor (client_side_of (record q { port = s' })) (client_takes_d q.port.d (client_takes_b q.port.b x))
  client_takes_all s' rest knows =
      subst (λ z. ClientStandsFor (client_side_of (record q { port = z })) (client_takes_d q.port.d (client_takes_b q.port.b x))) (sym rest) (record {
        a = h.a;
        b = h.b ∙ sym (append-nil (x.b ++ q.port.b));
        c = h.c;
        d = h.d ∙ sym (answered-all x.history q.port.d) ∙ sym (append-nil (answered (x.history ++ map Answer q.port.d)));
        e = h.e;
        accepted = asked_answers x.history q.port.d ∙ h.accepted;
        requests = requests_answers x.history q.port.d h.requests;
        time = client_took x.history (with_times (sent_times (client_side_of q).a)) (received_times (client_side_of q).d) (clock (client_side_of q).d)
            q.port.d [] q.port.d h.d (append-nil q.port.d) h.time;
        book = knows;
      })

module _ {A : Type 0} {C M : ℕ} (q : client.Inside C M A) where
  -- the side with another box
  abbrev outbox_a : Outgoing HeadA M → ClientState A C M
  outbox_a o = client_side_of (record q { port = record q.port { a = o } })

  abbrev outbox_c : Outgoing HeadC M → ClientState A C M
  outbox_c o = client_side_of (record q { port = record q.port { c = o } })

  abbrev outbox_e : Outgoing HeadE M → ClientState A C M
  outbox_e o = client_side_of (record q { port = record q.port { e = o } })

  abbrev inbox_b : List (BeatOf HeadB C) → ClientState A C M
  inbox_b i = client_side_of (record q { port = record q.port { b = i } })

  abbrev request_sent : Booked (Outgoing HeadA M) Client → ClientState A C M
  request_sent s = client_side_of (record q { port = record q.port { a = s.box; book = s.book } })

  abbrev response_taken : Booked (List (BeatOf HeadD C)) Client → ClientState A C M
  response_taken s = client_side_of (record q { port = record q.port { d = s.box; book = s.book } })

  -- an offer to an outbox is one to the side
  pub side_offers_a : (s : Booked (Outgoing HeadA M) Client) (y : BeatOf HeadA C) (r : Result (Unit {0}) SideFault) → IsOpen q.port.a →
      OffersBeat sends_requests y (record { box = q.port.a; book = q.port.book }) r s → OffersBeat (sends_a client_side) y (client_side_of q) r (request_sent s)
  side_offers_a s y r ready = offer_lifted sends_requests (sends_a client_side) request_sent
      (λ x. record { history = x.history; crossing = away_of q.port.a x.a }) (record { box = q.port.a; book = q.port.book }) s
      (λ x h. record { box = record { sent = h.a.pipe.outbox; is = refl }; accepted = h.accepted; homes = tt; book = h.book }) y r
      (λ x. refl) refl
      (λ x h fine stands. (record {
        a = sends_offered rules_a masked_a (sending_of q.port.a q.a) x.a y 0 s.box ready.0 ready.1 (still_open stands.box ready.1) stands.box.sent h.a;
        b = h.b;
        c = h.c;
        d = subst (λ z. Takes (taking_of q.port.d q.d.half) z) (sym (answered_ask x.history y)) h.d;
        e = h.e;
        accepted = stands.accepted;
        requests = requests_ask x.history y h.requests fine;
        time = client_accepts x.history (with_times (sent_times (client_side_of q).a)) (with_times (received_times (client_side_of q).d))
            (clock (client_side_of q).d) y h.time;
        book = stands.book;
      }))

  pub side_offers_c : (o : Outgoing HeadC M) (y : BeatOf HeadC C) (r : Result (Unit {0}) SideFault) → IsOpen q.port.c →
      OffersBeat (outbox_sends rules_c) y q.port.c r o → OffersBeat (sends_c client_side) y (client_side_of q) r (outbox_c o)
  side_offers_c o y r ready = offer_lifted (outbox_sends rules_c) (sends_c client_side) outbox_c (λ x. away_of q.port.c x.c) q.port.c o
      (λ x h. record { sent = h.c.pipe.outbox; is = refl }) y r (λ x. refl) refl
      (λ x h fine stands. (record {
        a = h.a;
        b = h.b;
        c = sends_offered rules_c masked_c (sending_of q.port.c q.c) x.c y 0 o ready.0 ready.1 (still_open stands ready.1) stands.sent h.c;
        d = h.d;
        e = h.e;
        accepted = h.accepted;
        requests = h.requests;
        time = h.time;
        book = h.book;
      }))

  pub side_offers_e : (o : Outgoing HeadE M) (y : BeatOf HeadE C) (r : Result (Unit {0}) SideFault) → IsOpen q.port.e →
      OffersBeat (outbox_sends rules_e) y q.port.e r o → OffersBeat (sends_e client_side) y (client_side_of q) r (outbox_e o)
  side_offers_e o y r ready = offer_lifted (outbox_sends rules_e) (sends_e client_side) outbox_e (λ x. away_of q.port.e x.e) q.port.e o
      (λ x h. record { sent = h.e.pipe.outbox; is = refl }) y r (λ x. refl) refl
      (λ x h fine stands. (record {
        a = h.a;
        b = h.b;
        c = h.c;
        d = h.d;
        e = sends_offered rules_e masked_e (sending_of q.port.e q.e) x.e y 0 o ready.0 ready.1 (still_open stands ready.1) stands.sent h.e;
        accepted = h.accepted;
        requests = h.requests;
        time = h.time;
        book = h.book;
      }))

  -- so is a take
  pub side_taken_b : (i : List (BeatOf HeadB C)) (r : Option (BeatOf HeadB C)) → TakesBeat (inbox_takes rules_b) q.port.b r i →
      TakesBeat (takes_b client_side) (client_side_of q) r (inbox_b i)
  side_taken_b i r = take_lifted (inbox_takes rules_b) (takes_b client_side) inbox_b
      (λ x. record { received = received (taking_of q.port.b q.b.half); taken = x.b }) q.port.b i r (λ x h. h.b) refl refl (λ k. ap inbox_b k)
      (λ x h k stands. subst (λ z. ClientStandsFor (inbox_b z) ((takes_b (client_side {A = A})).after_take (client_side_of q) x)) (sym k)
      (record {
        a = h.a;
        b = h.b ∙ sym (cut_moves 1 x.b q.port.b);
        c = h.c;
        d = h.d;
        e = h.e;
        accepted = h.accepted;
        requests = h.requests;
        time = h.time;
        book = h.book;
      }))

  pub side_taken_d : (s : Booked (List (BeatOf HeadD C)) Client) (r : Option (BeatOf HeadD C)) →
      TakesBeat takes_responses (record { box = q.port.d; book = q.port.book }) r s → TakesBeat (takes_d client_side) (client_side_of q) r (response_taken s)
  side_taken_d s r = take_lifted takes_responses (takes_d client_side) response_taken
      (λ x. record { history = x.history; received = received (taking_of q.port.d q.d.half) }) (record { box = q.port.d; book = q.port.book }) s r
      (λ x h. (h.d, h.book)) refl refl (λ k. ap (λ z. response_taken (record { box = z; book = s.book })) k)
      (λ x h k stands. subst (λ z. ClientStandsFor (response_taken (record { box = z; book = s.book })) ((takes_d (client_side {A = A})).after_take (client_side_of q) x)) (sym k)
      (record {
        a = h.a;
        b = h.b;
        c = h.c;
        d = h.d ∙ sym (cut_moves 1 (answered x.history) q.port.d) ∙
            ap (λ z. z ++ drop 1 q.port.d) (sym (answered-all x.history (take 1 q.port.d)));
        e = h.e;
        accepted = asked_answers x.history (take 1 q.port.d) ∙ h.accepted;
        requests = requests_answers x.history (take 1 q.port.d) h.requests;
        time = client_took x.history (with_times (sent_times (client_side_of q).a)) (received_times (client_side_of q).d) (clock (client_side_of q).d)
            (take 1 q.port.d) (drop 1 q.port.d) q.port.d h.d (take-append-drop 1 q.port.d) h.time;
        book = stands.1;
      }))

  -- and a close
  pub side_closes_a : (o : Outgoing HeadA M) (r : Result (Unit {0}) EndFault) → ClosesChannel (outbox_sends rules_a {w = C}) q.port.a r o →
      ClosesChannel (sends_a client_side) (client_side_of q) r (outbox_a o)
  side_closes_a o r = close_lifted (outbox_sends rules_a) (sends_a client_side) outbox_a (λ x. away_of q.port.a x.a) q.port.a o
      (λ x h. record { sent = h.a.pipe.outbox; is = refl }) r refl (λ x h. refl) refl refl
      (λ x h over. (record {
        a = sends_shut rules_a masked_a (sending_of q.port.a q.a) x.a over h.a;
        b = h.b;
        c = h.c;
        d = h.d;
        e = h.e;
        accepted = h.accepted;
        requests = h.requests;
        time = h.time;
        book = h.book;
      }))

  pub side_closes_c : (o : Outgoing HeadC M) (r : Result (Unit {0}) EndFault) → ClosesChannel (outbox_sends rules_c {w = C}) q.port.c r o →
      ClosesChannel (sends_c client_side) (client_side_of q) r (outbox_c o)
  side_closes_c o r = close_lifted (outbox_sends rules_c) (sends_c client_side) outbox_c (λ x. away_of q.port.c x.c) q.port.c o
      (λ x h. record { sent = h.c.pipe.outbox; is = refl }) r refl (λ x h. refl) refl refl
      (λ x h over. (record {
        a = h.a;
        b = h.b;
        c = sends_shut rules_c masked_c (sending_of q.port.c q.c) x.c over h.c;
        d = h.d;
        e = h.e;
        accepted = h.accepted;
        requests = h.requests;
        time = h.time;
        book = h.book;
      }))

  pub side_closes_e : (o : Outgoing HeadE M) (r : Result (Unit {0}) EndFault) → ClosesChannel (outbox_sends rules_e {w = C}) q.port.e r o →
      ClosesChannel (sends_e client_side) (client_side_of q) r (outbox_e o)
  side_closes_e o r = close_lifted (outbox_sends rules_e) (sends_e client_side) outbox_e (λ x. away_of q.port.e x.e) q.port.e o
      (λ x h. record { sent = h.e.pipe.outbox; is = refl }) r refl (λ x h. refl) refl refl
      (λ x h over. (record {
        a = h.a;
        b = h.b;
        c = h.c;
        d = h.d;
        e = sends_shut rules_e masked_e (sending_of q.port.e q.e) x.e over h.e;
        accepted = h.accepted;
        requests = h.requests;
        time = h.time;
        book = h.book;
      }))

module _ {A : Type 0} {C M : ℕ} (q : manager.Inside C M A) (x : ManagerPast C M) (h : ManagerStandsFor (manager_side_of q) x) where
  -- all beats of the inboxes are taken
  pub manager_takes_all : (s' : ManagerNow C M) → s' ≡ record q.port { a = []; c = []; e = []; book = s'.book } →
      KnowsManager s'.book (x.history ++ map Ask q.port.a) →
      ManagerStandsFor (manager_side_of (record q { port = s' })) (manager_takes_e q.port.e (manager_takes_c q.port.c (manager_takes_a q.port.a x)))
  manager_takes_all s' rest knows =
      subst (λ z. ManagerStandsFor (manager_side_of (record q { port = z }))
      (manager_takes_e q.port.e (manager_takes_c q.port.c (manager_takes_a q.port.a x)))) (sym rest) (record {
        a = h.a ∙ sym (asked-all x.history q.port.a) ∙ sym (append-nil (asked (x.history ++ map Ask q.port.a)));
        b = h.b;
        c = h.c ∙ sym (append-nil (x.c ++ q.port.c));
        d = h.d;
        e = h.e ∙ sym (append-nil (x.e ++ q.port.e));
        accepted = answered_asks x.history q.port.a ∙ h.accepted;
        homes = homes_asks x.history q.port.a ∙ h.homes;
        responses = responses_asks x.history q.port.a h.responses;
        time = manager_took x.history (with_times (sent_times (manager_side_of q).d)) (received_times (manager_side_of q).a)
            (clock (manager_side_of q).a) q.port.a [] q.port.a h.a (append-nil q.port.a) h.time;
        book = knows;
      })

module _ {A : Type 0} {C M : ℕ} (q : manager.Inside C M A) where
  -- the side with another box
  abbrev outbox_b : Outgoing HeadB C → ManagerState A C M
  outbox_b o = manager_side_of (record q { port = record q.port { b = o } })

  abbrev outbox_d : Outgoing HeadD C → ManagerState A C M
  outbox_d o = manager_side_of (record q { port = record q.port { d = o } })

  abbrev inbox_c : List (BeatOf HeadC M) → ManagerState A C M
  inbox_c i = manager_side_of (record q { port = record q.port { c = i } })

  abbrev inbox_e : List (BeatOf HeadE M) → ManagerState A C M
  inbox_e i = manager_side_of (record q { port = record q.port { e = i } })

  abbrev response_sent : Booked (Outgoing HeadD C) Manager → ManagerState A C M
  response_sent s = manager_side_of (record q { port = record q.port { d = s.box; book = s.book } })

  abbrev request_taken : Booked (List (BeatOf HeadA M)) Manager → ManagerState A C M
  request_taken s = manager_side_of (record q { port = record q.port { a = s.box; book = s.book } })

  -- an offer to an outbox is one to the side
  pub side_offers_b : (o : Outgoing HeadB C) (y : BeatOf HeadB M) (r : Result (Unit {0}) SideFault) → IsOpen q.port.b →
      OffersBeat (outbox_sends rules_b) y q.port.b r o → OffersBeat (sends_b manager_side) y (manager_side_of q) r (outbox_b o)
  side_offers_b o y r ready = offer_lifted (outbox_sends rules_b) (sends_b manager_side) outbox_b (λ x. away_of q.port.b x.b) q.port.b o
      (λ x h. record { sent = h.b.pipe.outbox; is = refl }) y r (λ x. refl) refl
      (λ x h fine stands. (record {
        a = h.a;
        b = sends_offered rules_b masked_b (sending_of q.port.b q.b) x.b y 0 o ready.0 ready.1 (still_open stands ready.1) stands.sent h.b;
        c = h.c;
        d = h.d;
        e = h.e;
        accepted = h.accepted;
        homes = h.homes;
        responses = h.responses;
        time = h.time;
        book = h.book;
      }))

  pub side_offers_d : (s : Booked (Outgoing HeadD C) Manager) (y : BeatOf HeadD M) (r : Result (Unit {0}) SideFault) → IsOpen q.port.d →
      OffersBeat sends_responses y (record { box = q.port.d; book = q.port.book }) r s → OffersBeat (sends_d manager_side) y (manager_side_of q) r (response_sent s)
  side_offers_d s y r ready = offer_lifted sends_responses (sends_d manager_side) response_sent
      (λ x. record { history = x.history; crossing = away_of q.port.d x.d }) (record { box = q.port.d; book = q.port.book }) s
      (λ x h. record { box = record { sent = h.d.pipe.outbox; is = refl }; accepted = h.accepted; homes = h.homes; book = h.book }) y r
      (λ x. refl) refl
      (λ x h fine stands. (record {
        a = subst (λ z. Takes (taking_of q.port.a q.a.half) z) (sym (asked_answer x.history y)) h.a;
        b = h.b;
        c = h.c;
        d = sends_offered rules_d masked_d (sending_of q.port.d q.d) x.d y (manager_home x.history y.head) s.box ready.0 ready.1
            (still_open stands.box ready.1) stands.box.sent h.d;
        e = h.e;
        accepted = stands.accepted;
        homes = stands.homes;
        responses = responses_answer x.history y h.responses fine;
        time = manager_accepts x.history (with_times (sent_times (manager_side_of q).d)) (with_times (received_times (manager_side_of q).a))
            (clock (manager_side_of q).a) y h.time;
        book = stands.book;
      }))

  -- so is a take
  pub side_taken_a : (s : Booked (List (BeatOf HeadA M)) Manager) (r : Option (BeatOf HeadA M)) →
      TakesBeat takes_requests (record { box = q.port.a; book = q.port.book }) r s → TakesBeat (takes_a manager_side) (manager_side_of q) r (request_taken s)
  side_taken_a s r = take_lifted takes_requests (takes_a manager_side) request_taken
      (λ x. record { history = x.history; received = received (taking_of q.port.a q.a.half) }) (record { box = q.port.a; book = q.port.book }) s r
      (λ x h. (h.a, h.book)) refl refl (λ k. ap (λ z. request_taken (record { box = z; book = s.book })) k)
      (λ x h k stands. subst (λ z. ManagerStandsFor (request_taken (record { box = z; book = s.book })) ((takes_a (manager_side {A = A})).after_take (manager_side_of q) x)) (sym k)
      (record {
        a = h.a ∙ sym (cut_moves 1 (asked x.history) q.port.a) ∙ ap (λ z. z ++ drop 1 q.port.a) (sym (asked-all x.history (take 1 q.port.a)));
        b = h.b;
        c = h.c;
        d = h.d;
        e = h.e;
        accepted = answered_asks x.history (take 1 q.port.a) ∙ h.accepted;
        homes = homes_asks x.history (take 1 q.port.a) ∙ h.homes;
        responses = responses_asks x.history (take 1 q.port.a) h.responses;
        time = manager_took x.history (with_times (sent_times (manager_side_of q).d)) (received_times (manager_side_of q).a)
            (clock (manager_side_of q).a) (take 1 q.port.a) (drop 1 q.port.a) q.port.a h.a (take-append-drop 1 q.port.a) h.time;
        book = stands.1;
      }))

  pub side_taken_c : (i : List (BeatOf HeadC M)) (r : Option (BeatOf HeadC M)) → TakesBeat (inbox_takes rules_c) q.port.c r i →
      TakesBeat (takes_c manager_side) (manager_side_of q) r (inbox_c i)
  side_taken_c i r = take_lifted (inbox_takes rules_c) (takes_c manager_side) inbox_c
      (λ x. record { received = received (taking_of q.port.c q.c.half); taken = x.c }) q.port.c i r (λ x h. h.c) refl refl (λ k. ap inbox_c k)
      (λ x h k stands. subst (λ z. ManagerStandsFor (inbox_c z) ((takes_c (manager_side {A = A})).after_take (manager_side_of q) x)) (sym k)
      (record {
        a = h.a;
        b = h.b;
        c = h.c ∙ sym (cut_moves 1 x.c q.port.c);
        d = h.d;
        e = h.e;
        accepted = h.accepted;
        homes = h.homes;
        responses = h.responses;
        time = h.time;
        book = h.book;
      }))

  pub side_taken_e : (i : List (BeatOf HeadE M)) (r : Option (BeatOf HeadE M)) → TakesBeat (inbox_takes rules_e) q.port.e r i →
      TakesBeat (takes_e manager_side) (manager_side_of q) r (inbox_e i)
  side_taken_e i r = take_lifted (inbox_takes rules_e) (takes_e manager_side) inbox_e
      (λ x. record { received = received (taking_of q.port.e q.e.half); taken = x.e }) q.port.e i r (λ x h. h.e) refl refl (λ k. ap inbox_e k)
      (λ x h k stands. subst (λ z. ManagerStandsFor (inbox_e z) ((takes_e (manager_side {A = A})).after_take (manager_side_of q) x)) (sym k)
      (record {
        a = h.a;
        b = h.b;
        c = h.c;
        d = h.d;
        e = h.e ∙ sym (cut_moves 1 x.e q.port.e);
        accepted = h.accepted;
        homes = h.homes;
        responses = h.responses;
        time = h.time;
        book = h.book;
      }))

  -- and a close
  pub side_closes_b : (o : Outgoing HeadB C) (r : Result (Unit {0}) EndFault) → ClosesChannel (outbox_sends rules_b {w = M}) q.port.b r o →
      ClosesChannel (sends_b manager_side) (manager_side_of q) r (outbox_b o)
  side_closes_b o r = close_lifted (outbox_sends rules_b) (sends_b manager_side) outbox_b (λ x. away_of q.port.b x.b) q.port.b o
      (λ x h. record { sent = h.b.pipe.outbox; is = refl }) r refl (λ x h. refl) refl refl
      (λ x h over. (record {
        a = h.a;
        b = sends_shut rules_b masked_b (sending_of q.port.b q.b) x.b over h.b;
        c = h.c;
        d = h.d;
        e = h.e;
        accepted = h.accepted;
        homes = h.homes;
        responses = h.responses;
        time = h.time;
        book = h.book;
      }))

  pub side_closes_d : (o : Outgoing HeadD C) (r : Result (Unit {0}) EndFault) → ClosesChannel (outbox_sends rules_d {w = M}) q.port.d r o →
      ClosesChannel (sends_d manager_side) (manager_side_of q) r (outbox_d o)
  side_closes_d o r = close_lifted (outbox_sends rules_d) (sends_d manager_side) outbox_d (λ x. away_of q.port.d x.d) q.port.d o
      (λ x h. record { sent = h.d.pipe.outbox; is = refl }) r refl (λ x h. refl) refl refl
      (λ x h over. (record {
        a = h.a;
        b = h.b;
        c = h.c;
        d = sends_shut rules_d masked_d (sending_of q.port.d q.d) x.d over h.d;
        e = h.e;
        accepted = h.accepted;
        homes = h.homes;
        responses = h.responses;
        time = h.time;
        book = h.book;
      }))

module _ {K A H : Type 0} {v : ℕ} where
  -- the count of a pump is what left the stage
  pub pump_counted : (k : ℕ) (s s' : Sending K A H v) → k ≤ length s.stage → Pushed s k s' → k ≡ pump_count s s'
  pump_counted k s s' most p =
      let left : length s'.stage ≡ length s.stage - k = ap length p.stage ∙ length-drop k s.stage in
      omega (arith, left, most)

  pub pumps_of : (k : ℕ) (s s' : Sending K A H v) → min (length s.stage) (known_free s) ≤ k → k ≤ length s.stage → Pushed s k s' → Pumps s s'
  pumps_of k s s' least most p =
      let count = pump_counted k s s' most p in
      record {
        least = subst (λ n. min (length s.stage) (known_free s) ≤ n) count least;
        pushed = subst (λ n. Pushed s n s') count p;
      }

  -- the count of a fetch is the number of beats that entered the inbox
  pub fetch_counted : (k : ℕ) (t t' : Taking K A H v) → Fetched t k t' → k ≡ fetch_count t t'
  fetch_counted k t t' f =
      let size : length t'.inbox ≡ length t.inbox + length f.moved = ap length f.inbox ∙ length-append t.inbox f.moved in
      let count : length f.moved ≡ k = f.count in
      omega (arith, size, count)

  pub fetches_of : (k : ℕ) (t t' : Taking K A H v) → min (length (known_items t)) (inbox_room - length t.inbox) ≤ k →
      k ≤ inbox_room - length t.inbox → Fetched t k t' → Fetches t t'
  fetches_of k t t' least most f =
      let count = fetch_counted k t t' f in
      record {
        least = subst (λ n. min (length (known_items t)) (inbox_room - length t.inbox) ≤ n) count least;
        most = subst (λ n. n ≤ inbox_room - length t.inbox) count most;
        fetched = subst (λ n. Fetched t n t') count f;
      }

-- the property of a pump of an end, and of a fetch
abbrev pub PumpsEnd : {K A H : Type 0} (r : Rules H) (w : ℕ) {v : ℕ} (s s' : Sending K A H v) (n : ℕ) → Type 0
PumpsEnd {K} {A} {H} r w {v} s s' n = record {
  count : n ≡ pump_count s s';
  most : n ≤ STAGE_CAPACITY;
  pumps : Pumps s s';
  stands : (x : World H w v) → Sends r s x → Sends r s' (after_pump s s' x);
}

abbrev pub FetchesEnd : {K A H : Type 0} {v : ℕ} (t t' : Taking K A H v) (n : ℕ) → Type 0
FetchesEnd {K} {A} {H} {v} t t' n = record {
  least : min (length (known_items t)) (inbox_room - length t.inbox) ≤ n;
  most : n ≤ inbox_room - length t.inbox;
  fetched : Fetched t n t';
  takes : (taken : List (BeatOf H v)) → Takes t taken → Takes t' taken;
}

-- the beats that entered a half of a ring, and that came out of one
pub pumps_end : {K A H : Type 0} (r : Rules H) (w : ℕ) {v : ℕ} (s s' : Sending K A H v) (n : ℕ) → record {
  least : min (length s.stage) (known_free s) ≤ n;
  most : (n ≤ length s.stage) × (n ≤ STAGE_CAPACITY);
  pushed : Pushed s n s';
  stands : (x : World H w v) → Sends r s x → Sends r s' (passed n x);
} → PumpsEnd r w s s' n
pumps_end r w s s' n e =
    let count = pump_counted n s s' e.most.0 e.pushed in record {
      count = count;
      most = e.most.1;
      pumps = pumps_of n s s' e.least e.most.0 e.pushed;
      stands = λ x h. subst (λ k. Sends r s' (passed k x)) count (e.stands x h);
    }

module _ {A : Type 0} {C M : ℕ} where
  -- a side pumps, and fetches, on all of its channels
  abbrev pub ClientPumps : (s s' : ClientState A C M) (n : ℕ) → Type 0
  ClientPumps s s' n = record {
    total : n ≡ pump_count s.a s'.a + pump_count s.c s'.c + pump_count s.e s'.e;
    most : n ≤ 3 * STAGE_CAPACITY;
    a : Pumps s.a s'.a;
    c : Pumps s.c s'.c;
    e : Pumps s.e s'.e;
    rest : s' ≡ record s { a = s'.a; c = s'.c; e = s'.e };
    stands : (x : ClientPast C M) → ClientStandsFor s x → ClientStandsFor s' (client_pumps s s' x);
  }

  pub client_pumped : {inside s : ClientState A C M} → inside ≡ s →
      (a : Sending ChA A HeadA M) (c : Sending ChC A HeadC M) (e : Sending ChE A HeadE M)
      (i j k : ℕ) → PumpsEnd rules_a C inside.a a i → PumpsEnd rules_c C inside.c c j → PumpsEnd rules_e C inside.e e k →
      sent_times a ≡ sent_times inside.a ++ all_stamped (clock inside.d) (take i inside.a.stage) →
      ClientPumps s (record inside { a = a; c = c; e = e }) (i + j + k)
  client_pumped {inside} view a c e i j k on_a on_c on_e times =
      subst (λ s. ClientPumps s (record inside { a = a; c = c; e = e }) (i + j + k)) view (record {
        total = λ t. on_a.count t + on_c.count t + on_e.count t;
        most = omega (arith, on_a.most, on_c.most, on_e.most);
        a = on_a.pumps;
        c = on_c.pumps;
        e = on_e.pumps;
        rest = refl;
        stands = λ x h. record {
          a = on_a.stands x.a h.a;
          b = h.b;
          c = on_c.stands x.c h.c;
          d = h.d;
          e = on_e.stands x.e h.e;
          accepted = h.accepted;
          requests = h.requests;
          time = client_sends x.history inside.a a (with_times (received_times inside.d)) (clock inside.d) (take i inside.a.stage)
              (after_pump inside.a a x.a) times h.accepted (on_a.stands x.a h.a) h.time;
          book = h.book;
        };
      })

  abbrev pub ManagerPumps : (s s' : ManagerState A C M) (n : ℕ) → Type 0
  ManagerPumps s s' n = record {
    total : n ≡ pump_count s.b s'.b + pump_count s.d s'.d;
    most : n ≤ 2 * STAGE_CAPACITY;
    b : Pumps s.b s'.b;
    d : Pumps s.d s'.d;
    rest : s' ≡ record s { b = s'.b; d = s'.d };
    stands : (x : ManagerPast C M) → ManagerStandsFor s x → ManagerStandsFor s' (manager_pumps s s' x);
  }

  pub manager_pumped : {inside s : ManagerState A C M} → inside ≡ s → (b : Sending ChB A HeadB C) (d : Sending ChD A HeadD C) (i j : ℕ) →
      PumpsEnd rules_b M inside.b b i → PumpsEnd rules_d M inside.d d j →
      sent_times d ≡ sent_times inside.d ++ all_stamped (clock inside.a) (take j inside.d.stage) →
      ManagerPumps s (record inside { b = b; d = d }) (i + j)
  manager_pumped {inside} view b d i j on_b on_d times = subst (λ s. ManagerPumps s (record inside { b = b; d = d }) (i + j)) view (record {
    total = λ t. on_b.count t + on_d.count t;
    most = omega (arith, on_b.most, on_d.most);
    b = on_b.pumps;
    d = on_d.pumps;
    rest = refl;
    stands = λ x h. record {
      a = h.a;
      b = on_b.stands x.b h.b;
      c = h.c;
      d = on_d.stands x.d h.d;
      e = h.e;
      accepted = h.accepted;
      homes = h.homes;
      responses = h.responses;
      time = manager_sends x.history inside.d d (with_times (received_times inside.a)) (clock inside.a) (take j inside.d.stage)
          (after_pump inside.d d x.d) times h.accepted (on_d.stands x.d h.d) h.time;
      book = h.book;
    };
  })

  abbrev pub ClientFetches : (s s' : ClientState A C M) (n : ℕ) → Type 0
  ClientFetches s s' n = record {
    total : n ≡ fetch_count s.b s'.b + fetch_count s.d s'.d;
    most : n ≤ 2 * STAGE_CAPACITY;
    b : Fetches s.b s'.b;
    d : Fetches s.d s'.d;
    rest : s' ≡ record s { b = s'.b; d = s'.d };
    stands : (x : ClientPast C M) → ClientStandsFor s x → ClientStandsFor s' x;
  }

  pub client_fetched : {inside s : ClientState A C M} → inside ≡ s → (b : Taking ChB A HeadB C) (d : Taking ChD A HeadD C) (i j : ℕ) →
      FetchesEnd inside.b b i → FetchesEnd inside.d d j → ClientFetches s (record inside { b = b; d = d }) (i + j)
  client_fetched {inside} view b d i j on_b on_d = subst (λ s. ClientFetches s (record inside { b = b; d = d }) (i + j)) view (
      let count_b = fetch_counted i inside.b b on_b.fetched in
      let count_d = fetch_counted j inside.d d on_d.fetched in
      record {
        total = λ t. count_b t + count_d t;
        most = omega (arith, on_b.most, on_d.most);
        b = fetches_of i inside.b b on_b.least on_b.most on_b.fetched;
        d = fetches_of j inside.d d on_d.least on_d.most on_d.fetched;
        rest = refl;
        stands = λ x h. record {
          a = h.a;
          b = on_b.takes x.b h.b;
          c = h.c;
          d = on_d.takes (answered x.history) h.d;
          e = h.e;
          accepted = h.accepted;
          requests = h.requests;
          time = heard_time client_way x.history (with_times (sent_times inside.a)) (received_times inside.d) (received_times d) (clock inside.d)
              (clock d) on_d.fetched.heard h.time;
          book = h.book;
        };
      })

  abbrev pub ManagerFetches : (s s' : ManagerState A C M) (n : ℕ) → Type 0
  ManagerFetches s s' n = record {
    total : n ≡ fetch_count s.a s'.a + fetch_count s.c s'.c + fetch_count s.e s'.e;
    most : n ≤ 3 * STAGE_CAPACITY;
    a : Fetches s.a s'.a;
    c : Fetches s.c s'.c;
    e : Fetches s.e s'.e;
    rest : s' ≡ record s { a = s'.a; c = s'.c; e = s'.e };
    stands : (x : ManagerPast C M) → ManagerStandsFor s x → ManagerStandsFor s' x;
  }

  pub manager_fetched : {inside s : ManagerState A C M} → inside ≡ s →
      (a : Taking ChA A HeadA M) (c : Taking ChC A HeadC M) (e : Taking ChE A HeadE M)
      (i j k : ℕ) → FetchesEnd inside.a a i → FetchesEnd inside.c c j → FetchesEnd inside.e e k →
      ManagerFetches s (record inside { a = a; c = c; e = e }) (i + j + k)
  manager_fetched {inside} view a c e i j k on_a on_c on_e = subst (λ s. ManagerFetches s (record inside { a = a; c = c; e = e }) (i + j + k)) view (
      let count_a = fetch_counted i inside.a a on_a.fetched in
      let count_c = fetch_counted j inside.c c on_c.fetched in
      let count_e = fetch_counted k inside.e e on_e.fetched in
      record {
        total = λ t. count_a t + count_c t + count_e t;
        most = omega (arith, on_a.most, on_c.most, on_e.most);
        a = fetches_of i inside.a a on_a.least on_a.most on_a.fetched;
        c = fetches_of j inside.c c on_c.least on_c.most on_c.fetched;
        e = fetches_of k inside.e e on_e.least on_e.most on_e.fetched;
        rest = refl;
        stands = λ x h. record {
          a = on_a.takes (asked x.history) h.a;
          b = h.b;
          c = on_c.takes x.c h.c;
          d = h.d;
          e = on_e.takes x.e h.e;
          accepted = h.accepted;
          homes = h.homes;
          responses = h.responses;
          time = heard_time manager_way x.history (with_times (sent_times inside.d)) (received_times inside.a) (received_times a) (clock inside.a)
              (clock a) on_a.fetched.heard h.time;
          book = h.book;
        };
      })

-- the facts that a meeting of both ends of a channel shows
abbrev pub MeetsEnds : {K A H : Type 0} (r : Rules H) (w : ℕ) {v : ℕ} (s s' : Sending K A H v) (t t' : Taking K A H v) (n : Standing) → Type 0
MeetsEnds {K} {A} {H} r w {v} s s' t t' n = record {
  met : Met s t s' t';
  standing : AreStanding s' t' n;
  meets : (x : World H w v) (taken : List (BeatOf H v)) → Sends r s x → Takes t taken → Meets r s' t' x taken;
}

-- both halves of a ring were looked at, and the boxes beside them counted
pub ends_meet : {K A H : Type 0} (r : Rules H) (w : ℕ) {v : ℕ} (s s' : Sending K A H v) (t t' : Taking K A H v) (n : Standing) → Met s t s' t' →
    n.staged ≡ length s'.stage → n.staged ≤ STAGE_CAPACITY → n.in_ring ≡ length (known_items t') → n.inbox ≡ length t'.inbox →
    n.inbox ≤ inbox_room → MeetsEnds r w s s' t t' n
ends_meet r w s s' t t' n met staged few in_ring inbox most =
    let fits : length t'.inbox ≤ inbox_room = omega (arith, inbox, most) in record {
      met = met;
      standing = record { staged = staged; in_ring = in_ring; inbox = inbox; most = (few, most) };
      meets = λ x taken sends takes. meets_of r s s' t t' x taken met fits sends takes;
    }

-- both sides meet on all of their channels
module _ {A : Type 0} {C M : ℕ} where
  pub sides_inside : {inside s : ClientState A C M} → inside ≡ s → {within t : ManagerState A C M} → within ≡ t →
      AreSides s t → AreSides inside within
  sides_inside {inside} {s} client {within} manager sides =
      subst (λ q. AreSides q within) (sym client) (subst (λ q. AreSides s q) (sym manager) sides)

  abbrev pub SidesMet : (s s' : ClientState A C M) (t t' : ManagerState A C M) (i j k l m : Standing) → Type 0
  SidesMet s s' t t' i j k l m = record {
    a : Met s.a t.a s'.a t'.a;
    b : Met t.b s.b t'.b s'.b;
    c : Met s.c t.c s'.c t'.c;
    d : Met t.d s.d t'.d s'.d;
    e : Met s.e t.e s'.e t'.e;
    standing_a : AreStanding s'.a t'.a i;
    standing_b : AreStanding t'.b s'.b j;
    standing_c : AreStanding s'.c t'.c k;
    standing_d : AreStanding t'.d s'.d l;
    standing_e : AreStanding s'.e t'.e m;
    books : (s'.book ≡ s.book) × (t'.book ≡ t.book);
    meets : (x : ClientPast C M) (y : ManagerPast C M) → ClientStandsFor s x → ManagerStandsFor t y → SidesMeet s' t' x y;
  }

  pub sides_met : {inside s : ClientState A C M} → inside ≡ s → {within t : ManagerState A C M} → within ≡ t →
      (a : Sending ChA A HeadA M) (b : Taking ChB A HeadB C) (c : Sending ChC A HeadC M) (d : Taking ChD A HeadD C) (e : Sending ChE A HeadE M)
      (ta : Taking ChA A HeadA M) (tb : Sending ChB A HeadB C) (tc : Taking ChC A HeadC M) (td : Sending ChD A HeadD C) (te : Taking ChE A HeadE M)
      (i j k l m : Standing) → MeetsEnds rules_a C inside.a a within.a ta i → MeetsEnds rules_b M within.b tb inside.b b j →
      MeetsEnds rules_c C inside.c c within.c tc k → MeetsEnds rules_d M within.d td inside.d d l → MeetsEnds rules_e C inside.e e within.e te m →
      SidesMet s (record inside { a = a; b = b; c = c; d = d; e = e }) t (record within { a = ta; b = tb; c = tc; d = td; e = te }) i j k l m
  sides_met {inside} client {within} {t} manager a b c d e ta tb tc td te i j k l m at_a at_b at_c at_d at_e =
      let s' : ClientState A C M = record inside { a = a; b = b; c = c; d = d; e = e } in
      let t' : ManagerState A C M = record within { a = ta; b = tb; c = tc; d = td; e = te } in
      subst (λ q. SidesMet q s' t t' i j k l m) client (subst (λ q. SidesMet inside s' q t' i j k l m) manager (record {
        a = at_a.met;
        b = at_b.met;
        c = at_c.met;
        d = at_d.met;
        e = at_e.met;
        standing_a = at_a.standing;
        standing_b = at_b.standing;
        standing_c = at_c.standing;
        standing_d = at_d.standing;
        standing_e = at_e.standing;
        books = (refl, refl);
        meets = λ x y h k.
            let on_a = at_a.meets x.a (asked y.history) h.a k.a in
            let on_b = at_b.meets y.b x.b k.b h.b in
            let on_c = at_c.meets x.c y.c h.c k.c in
            let on_d = at_d.meets y.d (answered x.history) k.d h.d in
            let on_e = at_e.meets x.e y.e h.e k.e in
            let client_time = same_time client_way at_a.met.same_sent_times at_d.met.same_received_times at_d.met.same_clock h.time in
            let manager_time = same_time manager_way at_d.met.same_sent_times at_a.met.same_received_times at_a.met.same_clock k.time in
            record {
              client = record {
                a = on_a.sends;
                b = on_b.takes;
                c = on_c.sends;
                d = on_d.takes;
                e = on_e.sends;
                accepted = h.accepted;
                requests = h.requests;
                time = client_time;
                book = h.book;
              };
              manager = record {
                a = on_a.takes;
                b = on_b.sends;
                c = on_c.takes;
                d = on_d.sends;
                e = on_e.takes;
                accepted = k.accepted;
                homes = k.homes;
                responses = k.responses;
                time = manager_time;
                book = k.book;
              };
              a = on_a;
              b = on_b;
              c = on_c;
              d = on_d;
              e = on_e;
              order = times_show_an_order x.history y.history (with_times (sent_times a)) (with_times (received_times ta)) (with_times (sent_times td))
                  (with_times (received_times d)) (clock d) (clock ta) client_time manager_time
                  (first_times (received_times ta) (known_times ta) (sent_times a) at_a.met.ring_times)
                  (first_times (received_times d) (known_times d) (sent_times td) at_d.met.ring_times);
            };
      }))
