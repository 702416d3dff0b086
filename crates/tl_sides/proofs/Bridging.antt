-- The calls of a bridge are those of its outboxes, inboxes and books, and what moves between an outbox, a ring and an inbox.
use Rattle.std.proofs.Common.{◌≡◌, ◌≤◌, ◌-◌, ◌++◌, ◌∷◌, [], ℕ, true, List, Option, Result, length, map, take, drop, min, refl, sym, subst, ap, ◌∙◌}
use Rattle.std.proofs.Common.{arith}
use Rattle.tl_sides.proofs.Words.{Buffer, buffer, Rules, partial_not_c, partial_not_d, rules_a, rules_b, rules_c, rules_d, rules_e, HeadA, HeadB}
use Rattle.tl_sides.proofs.Words.{HeadC, HeadD, HeadE, BeatOf, Outgoing, IsOpen, as_sent, World, offered, pushed, popped, took}
use Rattle.tl_sides.proofs.Words.{inbox_room, STAGE_CAPACITY, stands_new, stands_offered, stands_pushed, stands_popped, stands_took, stands_emptied}
use Rattle.tl_sides.proofs.Words.{stands_shut, Ask, Answer, manager_home, asked_answer}
use Rattle.tl_sides.proofs.Words.{answered_ask, SideFault, EndFault}
use Rattle.tl_settle.specs.Books.{Client, Manager, KnowsClient, KnowsManager}
use Rattle.tl_sides.specs.Bridges.{Bridge, Past, StandsFor, nothing_yet}
use Rattle.tl_sides.specs.Bridges.{bridge_client, bridge_manager}
use Rattle.tl_sides.specs.Ports.{sends_a, sends_b, sends_c, sends_d, sends_e, takes_a, takes_b}
use Rattle.tl_sides.specs.Ports.{takes_c, takes_d, takes_e}
use Rattle.tl_sides.specs.Bridges.{pump_count, fetch_count}
use Rattle.tl_sides.specs.ChannelCalls as calls
use Rattle.tl_sides.proofs.Passing.{is_pumped, is_fetched}
use Rattle.tl_sides.proofs.BridgeSteps.{Moves, with_a, with_b, with_c, with_d, with_e, client_goes_on, manager_goes_on, asked_answers}
use Rattle.tl_sides.proofs.BridgeSteps.{answered_asks, homes_asks}
use Rattle.tl_convert.proofs.Extends.{extends-refl}
use Rattle.tl_settle.proofs.Obeys.{obeys_none, obeys_ask, obeys_answer}
use Rattle.tl_settle.specs.OneOrder.{client_accepted, manager_accepted, none_yet}
use Rattle.tl_sides.proofs.Legal.{first_of, all_in_order, requests_in_order, requests_taken, responses_in_order, responses_taken}
use Rattle.tl_sides.proofs.Draining.{answered-all, asked-all}
use Rattle.tl_sides.specs.ChannelCalls.{after_take_all}
use Rattle.tl_sides.specs.Calls.{OffersBeat, ClosesChannel, TakesBeat}
use Rattle.tl_sides.proofs.Lifting.{offer_lifted, close_lifted, take_lifted}
use Rattle.tl_sides.specs.Ports.{ClientNow, ClientIsNew, ManagerNow, ManagerIsNew, Hither, Booked, outbox_sends, inbox_takes}
use Rattle.tl_sides.specs.Ports.{took_from, sends_requests, sends_responses, takes_requests, takes_responses}
use Rattle.tl_sides.specs.Joining.{pipe_of, bridge_of}
use Rattle.tl_sides.specs.declared.sync_bridge.SyncBridge.TheInside.{Inside}
use Rattle.tl_sides.proofs.BoxSteps.{still_open}

-- on every channel only rules with masks have a beat whose mask may be partial
pub masked_a : (h : HeadA) → rules_a.partial h ≡ true → rules_a.masked ≡ true
masked_a h e = refl

pub masked_b : (h : HeadB) → rules_b.partial h ≡ true → rules_b.masked ≡ true
masked_b h e = refl

pub masked_c : (h : HeadC) → rules_c.partial h ≡ true → rules_c.masked ≡ true
masked_c h = partial_not_c h.opcode

pub masked_d : (h : HeadD) → rules_d.partial h ≡ true → rules_d.masked ≡ true
masked_d h = partial_not_d h.opcode

pub masked_e : (h : HeadE) → rules_e.partial h ≡ true → rules_e.masked ≡ true
masked_e h e = e

-- the past of the box at either end of a crossing
abbrev pub sent_of : {H : Type 0} {w v : ℕ} → World H w v → List (BeatOf H v)
sent_of x = x.taken ++ x.inbox ++ x.ring

abbrev pub away_of : {H : Type 0} {w v : ℕ} → Outgoing H v → World H w v → World H w v
away_of o x = as_sent x.room o x.accepted x.homes (sent_of x)

abbrev pub hither_of : {H : Type 0} {w v : ℕ} → World H w v → Hither H v
hither_of x = record { received = x.taken ++ x.inbox; taken = x.taken }

-- the bridge that its ports and rings are
abbrev pub as_bridge : {A : Type 0} {C M : ℕ} → Inside C M A → Bridge C M
as_bridge q = bridge_of q.client q.manager q.a q.b q.c q.d q.e

module _ {A : Type 0} {C M : ℕ} (q : Inside C M A) (x : Past C M) (h : StandsFor (as_bridge q) x) where
  -- both sides take all beats of their inboxes
  pub all_taken : (s' : ClientNow C M) (t' : ManagerNow C M) → s' ≡ record q.client { b = []; d = []; book = s'.book } →
      t' ≡ record q.manager { a = []; c = []; e = []; book = t'.book } → KnowsClient s'.book (x.client ++ map Answer q.client.d) →
      KnowsManager t'.book (x.manager ++ map Ask q.manager.a) → StandsFor (as_bridge (record q { client = s'; manager = t' })) (after_take_all x)
  all_taken s' t' rest rest' client manager =
      subst (λ z. StandsFor (as_bridge (record q { client = z; manager = t' })) (after_take_all x)) (sym rest)
      (subst (λ z. StandsFor (as_bridge (record q { client = record q.client { b = []; d = []; book = s'.book }; manager = z }))
      (after_take_all x)) (sym rest')
      (record {
        a = stands_emptied rules_a masked_a (pipe_of q.client.a q.a q.manager.a) x.a h.a;
        b = stands_emptied rules_b masked_b (pipe_of q.manager.b q.b q.client.b) x.b h.b;
        c = stands_emptied rules_c masked_c (pipe_of q.client.c q.c q.manager.c) x.c h.c;
        d = stands_emptied rules_d masked_d (pipe_of q.manager.d q.d q.client.d) x.d h.d;
        e = stands_emptied rules_e masked_e (pipe_of q.client.e q.e q.manager.e) x.e h.e;
        client_asked = asked_answers x.client x.d.inbox ∙ h.client_asked;
        client_answered = answered-all x.client x.d.inbox ∙ ap (λ z. z ++ x.d.inbox) h.client_answered;
        manager_asked = asked-all x.manager x.a.inbox ∙ ap (λ z. z ++ x.a.inbox) h.manager_asked;
        manager_answered = answered_asks x.manager x.a.inbox ∙ h.manager_answered;
        homes = homes_asks x.manager x.a.inbox ∙ h.homes;
        client = subst (λ z. KnowsClient s'.book (x.client ++ map Answer z)) h.d.inbox client;
        manager = subst (λ z. KnowsManager t'.book (x.manager ++ map Ask z)) h.a.inbox manager;
        client_obeys = responses_taken (as_bridge q) x h x.d.inbox (extends-refl x.d.inbox);
        manager_obeys = requests_taken (as_bridge q) x h x.a.inbox (extends-refl x.a.inbox);
        order = all_in_order (as_bridge q) x h x.a.inbox x.d.inbox (extends-refl x.a.inbox) (extends-refl x.d.inbox);
      }))

module _ {A : Type 0} {C M : ℕ} (q : Inside C M A) where
  -- the bridge with another box of the client's side, or of the manager's
  abbrev with_outbox_a : Outgoing HeadA M → Bridge C M
  with_outbox_a o = as_bridge (record q { client = record q.client { a = o } })

  abbrev with_outbox_b : Outgoing HeadB C → Bridge C M
  with_outbox_b o = as_bridge (record q { manager = record q.manager { b = o } })

  abbrev with_inbox_b : List (BeatOf HeadB C) → Bridge C M
  with_inbox_b i = as_bridge (record q { client = record q.client { b = i } })

  abbrev with_outbox_c : Outgoing HeadC M → Bridge C M
  with_outbox_c o = as_bridge (record q { client = record q.client { c = o } })

  abbrev with_inbox_c : List (BeatOf HeadC M) → Bridge C M
  with_inbox_c i = as_bridge (record q { manager = record q.manager { c = i } })

  abbrev with_outbox_d : Outgoing HeadD C → Bridge C M
  with_outbox_d o = as_bridge (record q { manager = record q.manager { d = o } })

  abbrev with_outbox_e : Outgoing HeadE M → Bridge C M
  with_outbox_e o = as_bridge (record q { client = record q.client { e = o } })

  abbrev with_inbox_e : List (BeatOf HeadE M) → Bridge C M
  with_inbox_e i = as_bridge (record q { manager = record q.manager { e = i } })

  abbrev with_request : Booked (Outgoing HeadA M) Client → Bridge C M
  with_request s = as_bridge (record q { client = record q.client { a = s.box; book = s.book } })

  abbrev with_response : Booked (Outgoing HeadD C) Manager → Bridge C M
  with_response s = as_bridge (record q { manager = record q.manager { d = s.box; book = s.book } })

  abbrev with_request_taken : Booked (List (BeatOf HeadA M)) Manager → Bridge C M
  with_request_taken s = as_bridge (record q { manager = record q.manager { a = s.box; book = s.book } })

  abbrev with_response_taken : Booked (List (BeatOf HeadD C)) Client → Bridge C M
  with_response_taken s = as_bridge (record q { client = record q.client { d = s.box; book = s.book } })

  -- an offer to an outbox is one to its bridge
  pub bridge_offers_a : (s : Booked (Outgoing HeadA M) Client) (y : BeatOf HeadA C) (r : Result (Unit {0}) SideFault) → IsOpen q.client.a →
      OffersBeat sends_requests y (record { box = q.client.a; book = q.client.book }) r s → OffersBeat (sends_a bridge_client) y (as_bridge q) r (with_request s)
  bridge_offers_a s y r ready = offer_lifted sends_requests (sends_a bridge_client) with_request
      (λ x. record { history = x.client; crossing = away_of q.client.a x.a }) (record { box = q.client.a; book = q.client.book }) s
      (λ x h. record { box = record { sent = h.a.outbox; is = refl }; accepted = h.client_asked; homes = tt; book = h.client }) y r
      (λ x. refl) refl
      (λ x h fine stands. client_goes_on (as_bridge q) x h (pipe_of s.box q.a q.manager.a) (pipe_of q.manager.d q.d q.client.d) s.book
      (x.client ++ Ask y ∷ []) (offered rules_a y 0 x.a) x.d
      (stands_offered rules_a masked_a (pipe_of q.client.a q.a q.manager.a) x.a y 0 s.box ready.0 ready.1 (still_open stands.box ready.1)
      stands.box.sent h.a) h.d stands.accepted (answered_ask x.client y ∙ h.client_answered) stands.book
      (obeys_ask x.client y h.client_obeys fine) (client_accepted x.client x.manager y h.order) refl (refl, refl))

  pub bridge_offers_b : (o : Outgoing HeadB C) (y : BeatOf HeadB M) (r : Result (Unit {0}) SideFault) → IsOpen q.manager.b →
      OffersBeat (outbox_sends rules_b) y q.manager.b r o → OffersBeat (sends_b bridge_manager) y (as_bridge q) r (with_outbox_b o)
  bridge_offers_b o y r ready = offer_lifted (outbox_sends rules_b) (sends_b bridge_manager) with_outbox_b (λ x. away_of q.manager.b x.b) q.manager.b o
      (λ x h. record { sent = h.b.outbox; is = refl }) y r (λ x. refl) refl
      (λ x h fine stands. with_b (as_bridge q) x h (pipe_of o q.b q.client.b) (offered rules_b y 0 x.b)
      (stands_offered rules_b masked_b (pipe_of q.manager.b q.b q.client.b) x.b y 0 o ready.0 ready.1 (still_open stands ready.1) stands.sent h.b))

  pub bridge_offers_c : (o : Outgoing HeadC M) (y : BeatOf HeadC C) (r : Result (Unit {0}) SideFault) → IsOpen q.client.c →
      OffersBeat (outbox_sends rules_c) y q.client.c r o → OffersBeat (sends_c bridge_client) y (as_bridge q) r (with_outbox_c o)
  bridge_offers_c o y r ready = offer_lifted (outbox_sends rules_c) (sends_c bridge_client) with_outbox_c (λ x. away_of q.client.c x.c) q.client.c o
      (λ x h. record { sent = h.c.outbox; is = refl }) y r (λ x. refl) refl
      (λ x h fine stands. with_c (as_bridge q) x h (pipe_of o q.c q.manager.c) (offered rules_c y 0 x.c)
      (stands_offered rules_c masked_c (pipe_of q.client.c q.c q.manager.c) x.c y 0 o ready.0 ready.1 (still_open stands ready.1) stands.sent h.c))

  pub bridge_offers_d : (s : Booked (Outgoing HeadD C) Manager) (y : BeatOf HeadD M) (r : Result (Unit {0}) SideFault) → IsOpen q.manager.d →
      OffersBeat sends_responses y (record { box = q.manager.d; book = q.manager.book }) r s → OffersBeat (sends_d bridge_manager) y (as_bridge q) r (with_response s)
  bridge_offers_d s y r ready = offer_lifted sends_responses (sends_d bridge_manager) with_response
      (λ x. record { history = x.manager; crossing = away_of q.manager.d x.d }) (record { box = q.manager.d; book = q.manager.book }) s
      (λ x h. record { box = record { sent = h.d.outbox; is = refl }; accepted = h.manager_answered; homes = h.homes; book = h.manager }) y r
      (λ x. refl) refl
      (λ x h fine stands. let home : ℕ = manager_home x.manager y.head in
      manager_goes_on (as_bridge q) x h (pipe_of q.client.a q.a q.manager.a) (pipe_of s.box q.d q.client.d) s.book (x.manager ++ Answer y ∷ []) x.a
      (offered rules_d y home x.d) h.a
      (stands_offered rules_d masked_d (pipe_of q.manager.d q.d q.client.d) x.d y home s.box ready.0 ready.1 (still_open stands.box ready.1)
      stands.box.sent h.d) (asked_answer x.manager y ∙ h.manager_asked) stands.accepted stands.homes stands.book
      (obeys_answer x.manager y h.manager_obeys fine) (manager_accepted x.client x.manager y h.order) refl refl)

  pub bridge_offers_e : (o : Outgoing HeadE M) (y : BeatOf HeadE C) (r : Result (Unit {0}) SideFault) → IsOpen q.client.e →
      OffersBeat (outbox_sends rules_e) y q.client.e r o → OffersBeat (sends_e bridge_client) y (as_bridge q) r (with_outbox_e o)
  bridge_offers_e o y r ready = offer_lifted (outbox_sends rules_e) (sends_e bridge_client) with_outbox_e (λ x. away_of q.client.e x.e) q.client.e o
      (λ x h. record { sent = h.e.outbox; is = refl }) y r (λ x. refl) refl
      (λ x h fine stands. with_e (as_bridge q) x h (pipe_of o q.e q.manager.e) (offered rules_e y 0 x.e)
      (stands_offered rules_e masked_e (pipe_of q.client.e q.e q.manager.e) x.e y 0 o ready.0 ready.1 (still_open stands ready.1) stands.sent h.e))

  -- so is a take
  pub bridge_taken_a : (s : Booked (List (BeatOf HeadA M)) Manager) (r : Option (BeatOf HeadA M)) →
      TakesBeat takes_requests (record { box = q.manager.a; book = q.manager.book }) r s → TakesBeat (takes_a bridge_manager) (as_bridge q) r (with_request_taken s)
  bridge_taken_a s r = take_lifted takes_requests (takes_a bridge_manager) with_request_taken
      (λ x. record { history = x.manager; received = x.a.taken ++ x.a.inbox }) (record { box = q.manager.a; book = q.manager.book }) s r
      (λ x h. (ap (λ z. x.a.taken ++ z) (sym h.a.inbox) ∙ ap (λ z. z ++ q.manager.a) (sym h.manager_asked), h.manager)) refl refl
      (λ k. ap (λ z. with_request_taken (record { box = z; book = s.book })) k)
      (λ x h k stands. subst (λ z. StandsFor (with_request_taken (record { box = z; book = s.book })) ((takes_a bridge_manager).after_take (as_bridge q) x)) (sym k)
      (subst (λ i. StandsFor (with_request_taken (record { box = drop 1 q.manager.a; book = s.book }))
      (record x { manager = x.manager ++ map Ask (take 1 i); a = took_from i x.a })) (sym h.a.inbox)
      (manager_goes_on (as_bridge q) x h (pipe_of q.client.a q.a (drop 1 q.manager.a)) (pipe_of q.manager.d q.d q.client.d) s.book
      (x.manager ++ map Ask (take 1 x.a.inbox)) (took x.a) x.d (stands_took rules_a masked_a (pipe_of q.client.a q.a q.manager.a) x.a h.a) h.d
      (asked-all x.manager (take 1 x.a.inbox) ∙ ap (λ z. z ++ take 1 x.a.inbox) h.manager_asked)
      (answered_asks x.manager (take 1 x.a.inbox) ∙ h.manager_answered) (homes_asks x.manager (take 1 x.a.inbox) ∙ h.homes)
      (subst (λ z. KnowsManager s.book (x.manager ++ map Ask (take 1 z))) h.a.inbox stands.1)
      (requests_taken (as_bridge q) x h (take 1 x.a.inbox) (first_of x.a.inbox))
      (requests_in_order (as_bridge q) x h (take 1 x.a.inbox) (first_of x.a.inbox)) refl refl)))

  pub bridge_taken_b : (i : List (BeatOf HeadB C)) (r : Option (BeatOf HeadB C)) → TakesBeat (inbox_takes rules_b) q.client.b r i →
      TakesBeat (takes_b bridge_client) (as_bridge q) r (with_inbox_b i)
  bridge_taken_b i r = take_lifted (inbox_takes rules_b) (takes_b bridge_client) with_inbox_b (λ x. hither_of x.b) q.client.b i r
      (λ x h. ap (λ z. x.b.taken ++ z) (sym h.b.inbox)) refl refl (λ k. ap with_inbox_b k)
      (λ x h k stands. subst (λ z. StandsFor (with_inbox_b z) ((takes_b bridge_client).after_take (as_bridge q) x)) (sym k)
      (subst (λ i. StandsFor (with_inbox_b (drop 1 q.client.b)) (record x { b = took_from i x.b })) (sym h.b.inbox)
      (with_b (as_bridge q) x h (pipe_of q.manager.b q.b (drop 1 q.client.b)) (took x.b)
      (stands_took rules_b masked_b (pipe_of q.manager.b q.b q.client.b) x.b h.b))))

  pub bridge_taken_c : (i : List (BeatOf HeadC M)) (r : Option (BeatOf HeadC M)) → TakesBeat (inbox_takes rules_c) q.manager.c r i →
      TakesBeat (takes_c bridge_manager) (as_bridge q) r (with_inbox_c i)
  bridge_taken_c i r = take_lifted (inbox_takes rules_c) (takes_c bridge_manager) with_inbox_c (λ x. hither_of x.c) q.manager.c i r
      (λ x h. ap (λ z. x.c.taken ++ z) (sym h.c.inbox)) refl refl (λ k. ap with_inbox_c k)
      (λ x h k stands. subst (λ z. StandsFor (with_inbox_c z) ((takes_c bridge_manager).after_take (as_bridge q) x)) (sym k)
      (subst (λ i. StandsFor (with_inbox_c (drop 1 q.manager.c)) (record x { c = took_from i x.c })) (sym h.c.inbox)
      (with_c (as_bridge q) x h (pipe_of q.client.c q.c (drop 1 q.manager.c)) (took x.c)
      (stands_took rules_c masked_c (pipe_of q.client.c q.c q.manager.c) x.c h.c))))

  pub bridge_taken_d : (s : Booked (List (BeatOf HeadD C)) Client) (r : Option (BeatOf HeadD C)) →
      TakesBeat takes_responses (record { box = q.client.d; book = q.client.book }) r s → TakesBeat (takes_d bridge_client) (as_bridge q) r (with_response_taken s)
  bridge_taken_d s r = take_lifted takes_responses (takes_d bridge_client) with_response_taken
      (λ x. record { history = x.client; received = x.d.taken ++ x.d.inbox }) (record { box = q.client.d; book = q.client.book }) s r
      (λ x h. (ap (λ z. x.d.taken ++ z) (sym h.d.inbox) ∙ ap (λ z. z ++ q.client.d) (sym h.client_answered), h.client)) refl refl
      (λ k. ap (λ z. with_response_taken (record { box = z; book = s.book })) k)
      (λ x h k stands. subst (λ z. StandsFor (with_response_taken (record { box = z; book = s.book })) ((takes_d bridge_client).after_take (as_bridge q) x)) (sym k)
      (subst (λ i. StandsFor (with_response_taken (record { box = drop 1 q.client.d; book = s.book }))
      (record x { client = x.client ++ map Answer (take 1 i); d = took_from i x.d })) (sym h.d.inbox)
      (client_goes_on (as_bridge q) x h (pipe_of q.client.a q.a q.manager.a) (pipe_of q.manager.d q.d (drop 1 q.client.d)) s.book
      (x.client ++ map Answer (take 1 x.d.inbox)) x.a (took x.d) h.a (stands_took rules_d masked_d (pipe_of q.manager.d q.d q.client.d) x.d h.d)
      (asked_answers x.client (take 1 x.d.inbox) ∙ h.client_asked)
      (answered-all x.client (take 1 x.d.inbox) ∙ ap (λ z. z ++ take 1 x.d.inbox) h.client_answered)
      (subst (λ z. KnowsClient s.book (x.client ++ map Answer (take 1 z))) h.d.inbox stands.1)
      (responses_taken (as_bridge q) x h (take 1 x.d.inbox) (first_of x.d.inbox))
      (responses_in_order (as_bridge q) x h (take 1 x.d.inbox) (first_of x.d.inbox)) refl (refl, refl))))

  pub bridge_taken_e : (i : List (BeatOf HeadE M)) (r : Option (BeatOf HeadE M)) → TakesBeat (inbox_takes rules_e) q.manager.e r i →
      TakesBeat (takes_e bridge_manager) (as_bridge q) r (with_inbox_e i)
  bridge_taken_e i r = take_lifted (inbox_takes rules_e) (takes_e bridge_manager) with_inbox_e (λ x. hither_of x.e) q.manager.e i r
      (λ x h. ap (λ z. x.e.taken ++ z) (sym h.e.inbox)) refl refl (λ k. ap with_inbox_e k)
      (λ x h k stands. subst (λ z. StandsFor (with_inbox_e z) ((takes_e bridge_manager).after_take (as_bridge q) x)) (sym k)
      (subst (λ i. StandsFor (with_inbox_e (drop 1 q.manager.e)) (record x { e = took_from i x.e })) (sym h.e.inbox)
      (with_e (as_bridge q) x h (pipe_of q.client.e q.e (drop 1 q.manager.e)) (took x.e)
      (stands_took rules_e masked_e (pipe_of q.client.e q.e q.manager.e) x.e h.e))))

  -- and a close
  pub bridge_closes_a : (o : Outgoing HeadA M) (r : Result (Unit {0}) EndFault) → ClosesChannel (outbox_sends rules_a {w = C}) q.client.a r o →
      ClosesChannel (sends_a bridge_client) (as_bridge q) r (with_outbox_a o)
  bridge_closes_a o r = close_lifted (outbox_sends rules_a) (sends_a bridge_client) with_outbox_a (λ x. away_of q.client.a x.a) q.client.a o
      (λ x h. record { sent = h.a.outbox; is = refl }) r refl (λ x h. refl) refl refl
      (λ x h over. with_a (as_bridge q) x h (pipe_of (record q.client.a { closed = true }) q.a q.manager.a) (record x.a { closed = true })
      (stands_shut rules_a masked_a (pipe_of q.client.a q.a q.manager.a) x.a over h.a) (refl, refl))

  pub bridge_closes_b : (o : Outgoing HeadB C) (r : Result (Unit {0}) EndFault) → ClosesChannel (outbox_sends rules_b {w = M}) q.manager.b r o →
      ClosesChannel (sends_b bridge_manager) (as_bridge q) r (with_outbox_b o)
  bridge_closes_b o r = close_lifted (outbox_sends rules_b) (sends_b bridge_manager) with_outbox_b (λ x. away_of q.manager.b x.b) q.manager.b o
      (λ x h. record { sent = h.b.outbox; is = refl }) r refl (λ x h. refl) refl refl
      (λ x h over. with_b (as_bridge q) x h (pipe_of (record q.manager.b { closed = true }) q.b q.client.b) (record x.b { closed = true })
      (stands_shut rules_b masked_b (pipe_of q.manager.b q.b q.client.b) x.b over h.b))

  pub bridge_closes_c : (o : Outgoing HeadC M) (r : Result (Unit {0}) EndFault) → ClosesChannel (outbox_sends rules_c {w = C}) q.client.c r o →
      ClosesChannel (sends_c bridge_client) (as_bridge q) r (with_outbox_c o)
  bridge_closes_c o r = close_lifted (outbox_sends rules_c) (sends_c bridge_client) with_outbox_c (λ x. away_of q.client.c x.c) q.client.c o
      (λ x h. record { sent = h.c.outbox; is = refl }) r refl (λ x h. refl) refl refl
      (λ x h over. with_c (as_bridge q) x h (pipe_of (record q.client.c { closed = true }) q.c q.manager.c) (record x.c { closed = true })
      (stands_shut rules_c masked_c (pipe_of q.client.c q.c q.manager.c) x.c over h.c))

  pub bridge_closes_d : (o : Outgoing HeadD C) (r : Result (Unit {0}) EndFault) → ClosesChannel (outbox_sends rules_d {w = M}) q.manager.d r o →
      ClosesChannel (sends_d bridge_manager) (as_bridge q) r (with_outbox_d o)
  bridge_closes_d o r = close_lifted (outbox_sends rules_d) (sends_d bridge_manager) with_outbox_d (λ x. away_of q.manager.d x.d) q.manager.d o
      (λ x h. record { sent = h.d.outbox; is = refl }) r refl (λ x h. refl) refl refl
      (λ x h over. with_d (as_bridge q) x h (pipe_of (record q.manager.d { closed = true }) q.d q.client.d) (record x.d { closed = true })
      (stands_shut rules_d masked_d (pipe_of q.manager.d q.d q.client.d) x.d over h.d) (refl, refl, refl))

  pub bridge_closes_e : (o : Outgoing HeadE M) (r : Result (Unit {0}) EndFault) → ClosesChannel (outbox_sends rules_e {w = C}) q.client.e r o →
      ClosesChannel (sends_e bridge_client) (as_bridge q) r (with_outbox_e o)
  bridge_closes_e o r = close_lifted (outbox_sends rules_e) (sends_e bridge_client) with_outbox_e (λ x. away_of q.client.e x.e) q.client.e o
      (λ x h. record { sent = h.e.outbox; is = refl }) r refl (λ x h. refl) refl refl
      (λ x h over. with_e (as_bridge q) x h (pipe_of (record q.client.e { closed = true }) q.e q.manager.e) (record x.e { closed = true })
      (stands_shut rules_e masked_e (pipe_of q.client.e q.e q.manager.e) x.e over h.e))

-- a pump of an outbox and a ring is one of their pipe, and so is a fetch
module _ {H : Type 0} (r : Rules H) (masked : (h : H) → r.partial h ≡ true → r.masked ≡ true) (w : ℕ) {v : ℕ} (o : Outgoing H v)
    (ring : Buffer (BeatOf H v)) (inbox : List (BeatOf H v)) (k : ℕ) where
  pub pumped : {o' : Outgoing H v} {ring' : Buffer (BeatOf H v)} → k ≡ min (length o.stage) (ring.capacity - length ring.items) →
      o' ≡ record o { stage = drop k o.stage } → ring' ≡ buffer (ring.items ++ take k o.stage) ring.capacity → k ≤ STAGE_CAPACITY →
      Moves r w (pipe_of o ring inbox) (pipe_of o' ring' inbox) k (pump_count (pipe_of o ring inbox)) pushed calls.pumped
  pumped count rest grown most = record {
    count = count;
    moved = λ x h. rw (rest, grown) (stands_pushed r masked k (pipe_of o ring inbox) x (omega (arith, count)) h);
    most = most;
    is = is_pumped o ring inbox k count rest grown;
  }

  pub fetched : {ring' : Buffer (BeatOf H v)} {inbox' : List (BeatOf H v)} → k ≡ min (length ring.items) (inbox_room - length inbox) →
      ring' ≡ buffer (drop k ring.items) ring.capacity → inbox' ≡ inbox ++ take k ring.items → k ≤ STAGE_CAPACITY →
      Moves r w (pipe_of o ring inbox) (pipe_of o ring' inbox') k (fetch_count (pipe_of o ring inbox)) popped calls.fetched
  fetched count left more most = record {
    count = count;
    moved = λ x h. rw (left, more) (stands_popped r masked k (pipe_of o ring inbox) x (omega (arith, count)) h);
    most = most;
    is = is_fetched o ring inbox k count left more;
  }

-- a new bridge
pub new_bridge : {C M : ℕ} (s : ClientNow C M) (t : ManagerNow C M) (a : Buffer (BeatOf HeadA M))
    (b : Buffer (BeatOf HeadB C)) (c : Buffer (BeatOf HeadC M))
    (d : Buffer (BeatOf HeadD C)) (e : Buffer (BeatOf HeadE M)) (ring : ℕ) → 1 ≤ ring →
    (a ≡ buffer [] ring) × (b ≡ buffer [] ring) × (c ≡ buffer [] ring) × (d ≡ buffer [] ring) × (e ≡ buffer [] ring) →
    ClientIsNew s → ManagerIsNew t → IsOpen s.a × IsOpen t.b × IsOpen s.c × IsOpen t.d × IsOpen s.e →
    (t.a ≡ []) × (s.b ≡ []) × (t.c ≡ []) × (s.d ≡ []) × (t.e ≡ []) → StandsFor (bridge_of s t a b c d e) (nothing_yet ring)
new_bridge s t a b c d e ring some made client manager ready none = record {
  a = stands_new rules_a masked_a (pipe_of s.a a t.a) ring some client.a (ap (λ q. q.capacity) made.0) ready.0.0
      (ap (λ q. q.items) made.0) none.0 ready.0.1;
  b = stands_new rules_b masked_b (pipe_of t.b b s.b) ring some manager.b (ap (λ q. q.capacity) made.1) ready.1.0
      (ap (λ q. q.items) made.1) none.1 ready.1.1;
  c = stands_new rules_c masked_c (pipe_of s.c c t.c) ring some client.c (ap (λ q. q.capacity) made.2) ready.2.0
      (ap (λ q. q.items) made.2) none.2 ready.2.1;
  d = stands_new rules_d masked_d (pipe_of t.d d s.d) ring some manager.d (ap (λ q. q.capacity) made.3) ready.3.0
      (ap (λ q. q.items) made.3) none.3 ready.3.1;
  e = stands_new rules_e masked_e (pipe_of s.e e t.e) ring some client.e (ap (λ q. q.capacity) made.4) ready.4.0
      (ap (λ q. q.items) made.4) none.4 ready.4.1;
  client_asked = refl;
  client_answered = refl;
  manager_asked = refl;
  manager_answered = refl;
  homes = refl;
  client = client.book;
  manager = manager.book;
  client_obeys = obeys_none;
  manager_obeys = obeys_none;
  order = none_yet;
}
