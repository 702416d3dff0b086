-- The part of a side in a round, one step after another.
use Rattle.std.proofs.Common.{◌≡◌, ◌+◌, ◌++◌, ℕ, None, List, map, refl, sym, ap, subst, ◌∙◌, append-nil}
use mathlib.Core.List.{IsPrefix}
use Rattle.tl_bridge.proofs.Words.{rules_a, rules_b, rules_c, rules_d, rules_e, HeadA, HeadB, HeadC, HeadD, HeadE, BeatOf, fault_after, Event, Ask}
use Rattle.tl_bridge.proofs.Words.{Answer, asked, answered, client_answer, manager_answer, manager_home, ClientMoves, ManagerMoves, far_a, far_d}
use Rattle.tl_bridge.proofs.Words.{Beats, stops_alone, asked_answers, answered_asks, PerChannel, ClientState, ManagerState, ClientStandsFor}
use Rattle.tl_bridge.proofs.Words.{ManagerStandsFor, client_pumps, manager_pumps, client_takes_b, client_takes_d, manager_takes_a, manager_takes_c}
use Rattle.tl_bridge.proofs.Words.{manager_takes_e, counted, steps, Offered, answered-all, asked-all, sent-offer, homed-offer, stops-offer}
use Rattle.tl_bridge.proofs.Words.{sent-passed, alone-own, client-own, manager-own, none-accepted, stops-same, client-takes-all, manager-takes-all}
use Rattle.tl_bridge.proofs.Words.{client-offers, manager-offers}
use Rattle.tl_bridge.specs.Inner.Sides.{ClientIsAt, ManagerIsAt, ClientHasOffered, ManagerHasOffered, none_ready}

module _ {A : Type 0} {C M : ℕ} (near : Beats C M) where
  -- all beats of the inboxes are taken
  pub client-took : (j m : ℕ) (es : List (Event C)) (n : PerChannel ℕ) (far_b far_b' : List (BeatOf HeadB C))
      (far_of_d far_of_d' : List (BeatOf HeadD C))
      (s s' : ClientState A C M) (o : PerChannel Offered) → (h : ClientIsAt near j m es n far_b far_of_d s o) →
      IsPrefix (far_of_d ++ s.d.inbox) (far_d near.a near.d j) →
      ClientStandsFor s' (client_takes_d s.d.inbox (client_takes_b s.b.inbox h.past)) → far_b' ≡ far_b ++ s.b.inbox →
      far_of_d' ≡ far_of_d ++ s.d.inbox →
      ClientIsAt near j m es n far_b' far_of_d' s' none_ready
  client-took j m es n far_b far_b' far_of_d far_of_d' s s' o h due stands in_b in_d = record {
    past = client_takes_d s.d.inbox (client_takes_b s.b.inbox h.past);
    stands = stands;
    moves = client-takes-all near.a near.d j m es n.a h.past.history s.d.inbox h.moves
        (subst (λ q. IsPrefix (q ++ s.d.inbox) (far_d near.a near.d j)) h.d_taken due);
    a_sent = h.a_sent;
    c_sent = h.c_sent;
    e_sent = h.e_sent;
    a_homed = h.a_homed;
    c_homed = h.c_homed;
    e_homed = h.e_homed;
    b_taken = in_b ∙ ap (λ q. q ++ s.b.inbox) h.b_taken;
    d_taken = in_d ∙ ap (λ q. q ++ s.d.inbox) h.d_taken ∙ sym (answered-all h.past.history s.d.inbox);
    stop_a = tt;
    stop_c = tt;
    stop_e = tt;
  }

  pub manager-took : (i m : ℕ) (es : List (Event M)) (n : PerChannel ℕ) (far_of_a far_of_a' : List (BeatOf HeadA M))
      (far_c far_c' : List (BeatOf HeadC M)) (far_e far_e' : List (BeatOf HeadE M))
      (t t' : ManagerState A C M) (o : PerChannel Offered) → (h : ManagerIsAt near i m es n far_of_a far_c far_e t o) →
      IsPrefix (far_of_a ++ t.a.inbox) (far_a near.a near.d i) →
      ManagerStandsFor t' (manager_takes_e t.e.inbox (manager_takes_c t.c.inbox (manager_takes_a t.a.inbox h.past))) →
      far_of_a' ≡ far_of_a ++ t.a.inbox →
      far_c' ≡ far_c ++ t.c.inbox → far_e' ≡ far_e ++ t.e.inbox → ManagerIsAt near i m es n far_of_a' far_c' far_e' t' none_ready
  manager-took i m es n far_of_a far_of_a' far_c far_c' far_e far_e' t t' o h due stands in_a in_c in_e = record {
    past = manager_takes_e t.e.inbox (manager_takes_c t.c.inbox (manager_takes_a t.a.inbox h.past));
    stands = stands;
    moves = manager-takes-all near.a near.d i m es n.d h.past.history t.a.inbox h.moves
        (subst (λ q. IsPrefix (q ++ t.a.inbox) (far_a near.a near.d i)) h.a_taken due);
    b_sent = h.b_sent;
    d_sent = h.d_sent;
    b_homed = h.b_homed;
    a_taken = in_a ∙ ap (λ q. q ++ t.a.inbox) h.a_taken ∙ sym (asked-all h.past.history t.a.inbox);
    c_taken = in_c ∙ ap (λ q. q ++ t.c.inbox) h.c_taken;
    e_taken = in_e ∙ ap (λ q. q ++ t.e.inbox) h.e_taken;
    stop_b = tt;
    stop_d = tt;
  }

  -- the next beats were offered, and what is staged went on
  pub client-turned : (j m : ℕ) (es : List (Event C)) (n : PerChannel ℕ) (far_b : List (BeatOf HeadB C)) (far_of_d : List (BeatOf HeadD C))
      (s s1 s2 s3 : ClientState A C M) (o p : PerChannel Offered) → (h : ClientIsAt near j m es n far_b far_of_d s o) →
      (k : ClientHasOffered near n h.past s1 p) →
      ClientStandsFor s3 (client_pumps s1 s2 k.past) → ClientIsAt near j m es (counted n p) far_b far_of_d s3 p
  client-turned j m es n far_b far_of_d s s1 s2 s3 o p h k stands =
      let x = h.past in
      let y = k.past in
      record {
        past = client_pumps s1 s2 y;
        stands = stands;
        moves = subst (λ q. ClientMoves near.a near.d j m es (n.a + steps p.a) q) (sym k.history)
            (client-offers near.a near.d j m es n.a x.history (λ _. 0) x.a p.a k.beats_a y.a h.moves k.does_a);
        a_sent = sent-passed rules_a near.a (n.a + steps p.a) y.a.taken y.a (client_pumps s1 s2 y).a
            (sent-offer rules_a near.a n.a (client_answer x.history) (λ _. 0) x.a p.a k.beats_a y.a h.a_sent
            (λ b f. subst (λ q. fault_after rules_a q b ≡ None) h.stands.accepted (client-own x.history b f)) k.does_a) refl refl refl _ refl;
        c_sent = sent-passed rules_c near.c (n.c + steps p.c) y.c.taken y.c (client_pumps s1 s2 y).c
            (sent-offer rules_c near.c n.c (stops_alone rules_c x.c.accepted) (λ _. 0) x.c p.c k.beats_c y.c h.c_sent
            (λ b f. alone-own rules_c x.c.accepted b f) k.does_c) refl refl refl _ refl;
        e_sent = sent-passed rules_e near.e (n.e + steps p.e) y.e.taken y.e (client_pumps s1 s2 y).e
            (sent-offer rules_e near.e n.e (stops_alone rules_e x.e.accepted) (λ _. 0) x.e p.e k.beats_e y.e h.e_sent
            (λ b f. alone-own rules_e x.e.accepted b f) k.does_e) refl refl refl _ refl;
        a_homed = homed-offer rules_a near.a n.a (client_answer x.history) (λ _. 0) x.a p.a k.beats_a y.a h.stands.a.pipe.crosses.handed
            h.a_homed (λ b. refl) k.does_a;
        c_homed = homed-offer rules_c near.c n.c (stops_alone rules_c x.c.accepted) (λ _. 0) x.c p.c k.beats_c y.c h.stands.c.pipe.crosses.handed
            h.c_homed (λ b. refl) k.does_c;
        e_homed = homed-offer rules_e near.e n.e (stops_alone rules_e x.e.accepted) (λ _. 0) x.e p.e k.beats_e y.e h.stands.e.pipe.crosses.handed
            h.e_homed (λ b. refl) k.does_e;
        b_taken = h.b_taken ∙ sym k.taken;
        d_taken = h.d_taken ∙ sym (ap answered k.history ∙ answered_asks x.history k.beats_a);
        stop_a = stops-same rules_a near.a (n.a + steps p.a) (client_answer x.history) (client_answer y.history) y.a.accepted p.a
            (λ z b. ap (λ q. client_answer q b)
            (k.history ∙ ap (λ q. x.history ++ map Ask q)
            (none-accepted rules_a near.a n.a (client_answer x.history) (λ _. 0) x.a p.a k.beats_a y.a z k.does_a).0 ∙
            append-nil x.history))
            (stops-offer rules_a near.a n.a (client_answer x.history) (λ _. 0) x.a p.a k.beats_a y.a k.does_a);
        stop_c = stops-same rules_c near.c (n.c + steps p.c) (stops_alone rules_c x.c.accepted) (stops_alone rules_c y.c.accepted) y.c.accepted p.c
            (λ z b. ap (λ q. stops_alone rules_c q b)
            (none-accepted rules_c near.c n.c (stops_alone rules_c x.c.accepted) (λ _. 0) x.c p.c k.beats_c y.c z k.does_c).1)
            (stops-offer rules_c near.c n.c (stops_alone rules_c x.c.accepted) (λ _. 0) x.c p.c k.beats_c y.c k.does_c);
        stop_e = stops-same rules_e near.e (n.e + steps p.e) (stops_alone rules_e x.e.accepted) (stops_alone rules_e y.e.accepted) y.e.accepted p.e
            (λ z b. ap (λ q. stops_alone rules_e q b)
            (none-accepted rules_e near.e n.e (stops_alone rules_e x.e.accepted) (λ _. 0) x.e p.e k.beats_e y.e z k.does_e).1)
            (stops-offer rules_e near.e n.e (stops_alone rules_e x.e.accepted) (λ _. 0) x.e p.e k.beats_e y.e k.does_e);
      }

  pub manager-turned : (i m : ℕ) (es : List (Event M)) (n : PerChannel ℕ) (far_of_a : List (BeatOf HeadA M)) (far_c : List (BeatOf HeadC M))
      (far_e : List (BeatOf HeadE M))
      (t t1 t2 t3 : ManagerState A C M) (o p : PerChannel Offered) → (h : ManagerIsAt near i m es n far_of_a far_c far_e t o) →
      (k : ManagerHasOffered near n h.past t1 p) →
      ManagerStandsFor t3 (manager_pumps t1 t2 k.past) → ManagerIsAt near i m es (counted n p) far_of_a far_c far_e t3 p
  manager-turned i m es n far_of_a far_c far_e t t1 t2 t3 o p h k stands =
      let x = h.past in
      let y = k.past in
      record {
        past = manager_pumps t1 t2 y;
        stands = stands;
        moves = subst (λ q. ManagerMoves near.a near.d i m es (n.d + steps p.d) q) (sym k.history)
            (manager-offers near.a near.d i m es n.d x.history (λ b. manager_home x.history b.head) x.d p.d k.beats_d y.d h.moves k.does_d);
        b_sent = sent-passed rules_b near.b (n.b + steps p.b) y.b.taken y.b (manager_pumps t1 t2 y).b
            (sent-offer rules_b near.b n.b (stops_alone rules_b x.b.accepted) (λ _. 0) x.b p.b k.beats_b y.b h.b_sent
            (λ b f. alone-own rules_b x.b.accepted b f) k.does_b) refl refl refl _ refl;
        d_sent = sent-passed rules_d near.d (n.d + steps p.d) y.d.taken y.d (manager_pumps t1 t2 y).d
            (sent-offer rules_d near.d n.d (manager_answer x.history) (λ b. manager_home x.history b.head) x.d p.d k.beats_d y.d h.d_sent
            (λ b f. subst (λ q. fault_after rules_d q b ≡ None) h.stands.accepted (manager-own x.history b f)) k.does_d) refl refl refl _ refl;
        b_homed = homed-offer rules_b near.b n.b (stops_alone rules_b x.b.accepted) (λ _. 0) x.b p.b k.beats_b y.b h.stands.b.pipe.crosses.handed
            h.b_homed (λ b. refl) k.does_b;
        a_taken = h.a_taken ∙ sym (ap asked k.history ∙ asked_answers x.history k.beats_d);
        c_taken = h.c_taken ∙ sym k.taken_c;
        e_taken = h.e_taken ∙ sym k.taken_e;
        stop_b = stops-same rules_b near.b (n.b + steps p.b) (stops_alone rules_b x.b.accepted) (stops_alone rules_b y.b.accepted) y.b.accepted p.b
            (λ z b. ap (λ q. stops_alone rules_b q b)
            (none-accepted rules_b near.b n.b (stops_alone rules_b x.b.accepted) (λ _. 0) x.b p.b k.beats_b y.b z k.does_b).1)
            (stops-offer rules_b near.b n.b (stops_alone rules_b x.b.accepted) (λ _. 0) x.b p.b k.beats_b y.b k.does_b);
        stop_d = stops-same rules_d near.d (n.d + steps p.d) (manager_answer x.history) (manager_answer y.history) y.d.accepted p.d
            (λ z b. ap (λ q. manager_answer q b)
            (k.history ∙ ap (λ q. x.history ++ map Answer q)
            (none-accepted rules_d near.d n.d (manager_answer x.history) (λ b. manager_home x.history b.head) x.d
            p.d k.beats_d y.d z k.does_d).0 ∙
            append-nil x.history))
            (stops-offer rules_d near.d n.d (manager_answer x.history) (λ b. manager_home x.history b.head) x.d p.d k.beats_d y.d k.does_d);
      }
