-- A round of a run: what the five channels do in it together.
use Rattle.tl_run.proofs.Names.{◌≡◌, ◌+◌, ◌++◌, ◌≤◌, ◌⊎◌, ℕ, Option, None, Some, List, [], map, refl, sym, ap, subst, ◌∙◌, arith, append-nil}
use Rattle.tl_run.proofs.Names.{length-append, inl, inr, option_map_or, IsWidth, Rules, rules_a, rules_b, rules_c, rules_d, rules_e, HeadA, HeadD}
use Rattle.tl_run.proofs.Names.{BeatOf, BeatFault, SideFault, Beat, fault_after, World, pushed, popped, Pipe, Event, Ask, Answer, asked, answered}
use Rattle.tl_run.proofs.Names.{client_answer, manager_answer, manager_home, Run, Beats, Bridge, Past, StandsFor, pump_count, fetch_count, after_pump}
use Rattle.tl_run.proofs.Names.{after_fetch, stops_alone, joined, IsShort, HaveRoomToCount, added, arriving, inboxes, lengths, Does, Stops, IsStopped}
use Rattle.tl_run.proofs.Names.{AreStopped, steps, emptied, after_take_all, counted, all_progress, all_under_way, HasOffered, IsAt, AllStop, HasRound}
use Rattle.tl_run.proofs.Names.{Done, Cut, Refused, Offered, Accepted, NotReady, Stopped, PerChannel}
use Rattle.tl_ring.specs.Pipe as piping
use Rattle.tl_sides.proofs.BridgeSteps.{asked_answers, answered_asks}
use Rattle.tl_run.proofs.Moving.{moved, push_count, pop_count, after_moves}
use Rattle.tl_run.proofs.ChannelOffer.{homed-offer, stops-offer}
use Rattle.tl_run.proofs.ChannelRound.{sent-round, progress-round}
use Rattle.tl_run.proofs.RunRound.{run-round}
use Rattle.tl_run.proofs.Counting.{few-enough}
use Rattle.tl_run.proofs.InRounds.{round-is}

-- ---- the moves of the rings

module _ {H : Type 0} (r : Rules H) {w v : ℕ} where
  -- a pipe counts the beats that enter its ring as the crossing that it represents does
  pub pumped-is : (p : Pipe H v) (x : World H w v) → piping.StandsFor r p x → pump_count p ≡ push_count x
  pumped-is p x s = rw (s.stage, s.room, s.ring) refl

  -- and those that come out of it
  pub fetched-is : (p : Pipe H v) (x : World H w v) → piping.StandsFor r p x → fetch_count p ≡ pop_count x
  fetched-is p x s = rw (s.ring, s.inbox) refl

  -- so after both the crossing has moved on
  pub moved-is : (p q : Pipe H v) (x : World H w v) → piping.StandsFor r p x → piping.StandsFor r q (pushed (pump_count p) x) →
      popped (fetch_count q) (pushed (pump_count p) x) ≡ moved x
  moved-is p q x s t =
      let both : (n : ℕ) → n ≡ push_count x → piping.StandsFor r q (pushed n x) → popped (fetch_count q) (pushed n x) ≡ moved x =
      λ n e u. ap (λ k. popped k (pushed n x)) (fetched-is q (pushed n x) u) ∙ ap (λ k. popped (pop_count (pushed k x)) (pushed k x)) e in
      both (pump_count p) (pumped-is p x s) t

-- after a pump and a fetch all rings have moved on
pub moved-stands : {C M : ℕ} (s t u : Bridge C M) (x : Past C M) → StandsFor s x → StandsFor t (after_pump s x) →
    StandsFor u (after_fetch t (after_pump s x)) → StandsFor u (after_moves x)
moved-stands s t u x f g h =
    let in_a = moved-is rules_a s.a t.a x.a f.a g.a in
    let in_b = moved-is rules_b s.b t.b x.b f.b g.b in
    let in_c = moved-is rules_c s.c t.c x.c f.c g.c in
    let in_d = moved-is rules_d s.d t.d x.d f.d g.d in
    let in_e = moved-is rules_e s.e t.e x.e f.e g.e in
    let y = after_fetch t (after_pump s x) in
    subst (λ z. StandsFor u (record x { a = moved x.a; b = moved x.b; c = moved x.c; d = moved x.d; e = z })) in_e
    (subst (λ z. StandsFor u (record x { a = moved x.a; b = moved x.b; c = moved x.c; d = z; e = y.e })) in_d
    (subst (λ z. StandsFor u (record x { a = moved x.a; b = moved x.b; c = z; d = y.d; e = y.e })) in_c
    (subst (λ z. StandsFor u (record x { a = moved x.a; b = z; c = y.c; d = y.d; e = y.e })) in_b
    (subst (λ z. StandsFor u (record x { a = z; b = y.b; c = y.c; d = y.d; e = y.e })) in_a h))))

-- ---- beats that are let through

-- a beat that nothing stops has no fault of its own
pub own-none : (o : Option BeatFault) (other : Option SideFault) → option_map_or (λ fault. Some (Beat fault)) o other ≡ None → o ≡ None
own-none None other e = refl
own-none (Some f) other e = search e

-- ---- one channel that is stopped

module _ {H : Type 0} (r : Rules H) {w v : ℕ} (bs : List (BeatOf H w)) (n : ℕ) (answer : BeatOf H w → Option SideFault) (home : BeatOf H w → ℕ) where
  -- it accepts nothing
  pub none-accepted : (x : World H w v) (o : Offered) (accepted : List (BeatOf H w)) (y : World H w v) → IsStopped o →
      Does r bs n answer home x o accepted y →
      (accepted ≡ []) × (y.accepted ≡ x.accepted)
  none-accepted x Accepted accepted y s does = elim s [ ]
  none-accepted x NotReady accepted y s does = elim s [ ]
  none-accepted x (Stopped (Refused f)) accepted y s (b, g, e, none, same) = (none, ap (λ z. z.accepted) same)
  none-accepted x (Stopped Done) accepted y s (g, e, none, same) = (none, ap (λ z. z.accepted) same)
  none-accepted x (Stopped Cut) accepted y s (g, e, none, same) = (none, ap (λ z. z.accepted) same)

-- the result for the next beat may be stated in another form
pub stops-same : {H : Type 0} (r : Rules H) {w : ℕ} (bs : List (BeatOf H w)) (n : ℕ) (answer other : BeatOf H w → Option SideFault)
    (accepted : List (BeatOf H w)) (o : Offered) →
    (IsStopped o → (b : BeatOf H w) → other b ≡ answer b) → Stops r bs n answer accepted o → Stops r bs n other accepted o
stops-same r bs n answer other accepted Accepted same s = tt
stops-same r bs n answer other accepted NotReady same s = tt
stops-same r bs n answer other accepted (Stopped (Refused f)) same (b, g, e) = (b, g, same tt b ∙ e)
stops-same r bs n answer other accepted (Stopped Done) same s = s
stops-same r bs n answer other accepted (Stopped Cut) same s = s

-- ---- two channels together

-- a number increased, or the channel is stopped and nothing is left
abbrev pub Moves : (p q u : ℕ) → Type 0 → Type 0
Moves p q u S = (p ≤ q) × ((p + 1 ≤ q) ⊎ (S × (u ≡ 0)))

-- so do two numbers together
pub both-move : {p q u p' q' u' : ℕ} {S T : Type 0} → Moves p q u S → Moves p' q' u' T → Moves (p + p') (q + q') (u + u') (S × T)
both-move (l, inl g) (m, h) = (omega arith, inl (omega arith))
both-move (l, inr g) (m, inl h) = (omega arith, inl (omega arith))
both-move (l, inr (s, z)) (m, inr (t, y)) = (omega arith, inr ((s, t), omega arith))

-- ---- the round

-- on a channel that nothing couples to another one, what is let through has no fault of its own
pub alone-own : {H : Type 0} (r : Rules H) {w : ℕ} (seen : List (BeatOf H w)) (b : BeatOf H w) →
    stops_alone r seen b ≡ None → fault_after r seen b ≡ None
alone-own r seen b e = own-none (fault_after r seen b) None e

-- a beat that the client's side accepts has no fault of its own
pub client-own : {w : ℕ} (es : List (Event w)) (b : BeatOf HeadA w) → client_answer es b ≡ None → fault_after rules_a (asked es) b ≡ None
client-own es b e = own-none (fault_after rules_a (asked es) b) _ e

-- a beat that the manager's side accepts has no fault of its own
pub manager-own : {w : ℕ} (es : List (Event w)) (b : BeatOf HeadD w) → manager_answer es b ≡ None → fault_after rules_d (answered es) b ≡ None
manager-own es b e = own-none (fault_after rules_d (answered es) b) _ e

module _ {C M : ℕ} (cw : IsWidth C) (mw : IsWidth M) (near : Beats C M) (n : PerChannel ℕ) (far : Beats M C) (x : Past C M) (s t : Bridge C M)
    (o : PerChannel Offered) (stands : StandsFor s x) (i : IsAt near n far x)
    (h : HasOffered near n (after_take_all x) t o) where
  -- the state of the run after the round
  pub at-round : IsAt near (counted n o) (joined far (arriving x)) (after_moves h.past)
  at-round = record {
    run = subst (λ q. Run near.a near.d (n.a + steps o.a) (n.d + steps o.d) q h.past.manager) (sym h.client)
        (subst (λ q. Run near.a near.d (n.a + steps o.a) (n.d + steps o.d) ((x.client ++ map Answer x.d.inbox) ++ map Ask h.beats_a) q)
        (sym h.manager)
        (run-round cw mw near.a near.d n.a n.d s x stands i.run i.a_homed o.a o.d h.beats_a h.beats_d h.past.a h.past.d h.does_a h.does_d));
    a_sent = sent-round rules_a near.a n.a (client_answer (x.client ++ map Answer x.d.inbox)) (λ _. 0) far.a x.a o.a h.beats_a h.past.a i.a_sent
        (λ y f. subst (λ q. fault_after rules_a q y ≡ None) (asked_answers x.client x.d.inbox ∙ stands.client_asked)
        (client-own (x.client ++ map Answer x.d.inbox) y f)) h.does_a;
    b_sent = sent-round rules_b near.b n.b (stops_alone rules_b x.b.accepted) (λ _. 0) far.b x.b o.b h.beats_b h.past.b i.b_sent
        (λ y f. alone-own rules_b x.b.accepted y f) h.does_b;
    c_sent = sent-round rules_c near.c n.c (stops_alone rules_c x.c.accepted) (λ _. 0) far.c x.c o.c h.beats_c h.past.c i.c_sent
        (λ y f. alone-own rules_c x.c.accepted y f) h.does_c;
    d_sent = sent-round rules_d near.d n.d (manager_answer (x.manager ++ map Ask x.a.inbox))
        (λ y. manager_home (x.manager ++ map Ask x.a.inbox) y.head) far.d x.d o.d h.beats_d h.past.d i.d_sent
        (λ y f. subst (λ q. fault_after rules_d q y ≡ None) (answered_asks x.manager x.a.inbox ∙ stands.manager_answered)
        (manager-own (x.manager ++ map Ask x.a.inbox) y f)) h.does_d;
    e_sent = sent-round rules_e near.e n.e (stops_alone rules_e x.e.accepted) (λ _. 0) far.e x.e o.e h.beats_e h.past.e i.e_sent
        (λ y f. alone-own rules_e x.e.accepted y f) h.does_e;
    a_homed = homed-offer rules_a near.a n.a (client_answer (x.client ++ map Answer x.d.inbox)) (λ _. 0) (emptied x.a) o.a h.beats_a h.past.a
        stands.a.crosses.handed i.a_homed (λ y. refl) h.does_a;
    b_homed = homed-offer rules_b near.b n.b (stops_alone rules_b x.b.accepted) (λ _. 0) (emptied x.b) o.b h.beats_b h.past.b stands.b.crosses.handed
        i.b_homed (λ y. refl) h.does_b;
    c_homed = homed-offer rules_c near.c n.c (stops_alone rules_c x.c.accepted) (λ _. 0) (emptied x.c) o.c h.beats_c h.past.c stands.c.crosses.handed
        i.c_homed (λ y. refl) h.does_c;
    e_homed = homed-offer rules_e near.e n.e (stops_alone rules_e x.e.accepted) (λ _. 0) (emptied x.e) o.e h.beats_e h.past.e stands.e.crosses.handed
        i.e_homed (λ y. refl) h.does_e;
  }

  -- the reason why it is stopped there, if it is
  pub stops-there : AllStop near (counted n o) (after_moves h.past) o
  stops-there = record {
    stop_a = stops-same rules_a near.a (n.a + steps o.a) (client_answer (x.client ++ map Answer x.d.inbox))
        (client_answer h.past.client) h.past.a.accepted o.a
        (λ z y. ap (λ q. client_answer q y) (h.client ∙ ap (λ q. (x.client ++ map Answer x.d.inbox) ++ map Ask q)
        (none-accepted rules_a near.a n.a (client_answer (x.client ++ map Answer x.d.inbox)) (λ _. 0) (emptied x.a) o.a
        h.beats_a h.past.a z h.does_a).0 ∙
        append-nil (x.client ++ map Answer x.d.inbox)))
        (stops-offer rules_a near.a n.a (client_answer (x.client ++ map Answer x.d.inbox)) (λ _. 0) (emptied x.a) o.a h.beats_a h.past.a h.does_a);
    stop_b = stops-same rules_b near.b (n.b + steps o.b) (stops_alone rules_b x.b.accepted)
        (stops_alone rules_b h.past.b.accepted) h.past.b.accepted o.b
        (λ z y. ap (λ q. stops_alone rules_b q y)
        (none-accepted rules_b near.b n.b (stops_alone rules_b x.b.accepted) (λ _. 0) (emptied x.b) o.b h.beats_b h.past.b z h.does_b).1)
        (stops-offer rules_b near.b n.b (stops_alone rules_b x.b.accepted) (λ _. 0) (emptied x.b) o.b h.beats_b h.past.b h.does_b);
    stop_c = stops-same rules_c near.c (n.c + steps o.c) (stops_alone rules_c x.c.accepted)
        (stops_alone rules_c h.past.c.accepted) h.past.c.accepted o.c
        (λ z y. ap (λ q. stops_alone rules_c q y)
        (none-accepted rules_c near.c n.c (stops_alone rules_c x.c.accepted) (λ _. 0) (emptied x.c) o.c h.beats_c h.past.c z h.does_c).1)
        (stops-offer rules_c near.c n.c (stops_alone rules_c x.c.accepted) (λ _. 0) (emptied x.c) o.c h.beats_c h.past.c h.does_c);
    stop_d = stops-same rules_d near.d (n.d + steps o.d) (manager_answer (x.manager ++ map Ask x.a.inbox))
        (manager_answer h.past.manager) h.past.d.accepted o.d
        (λ z y. ap (λ q. manager_answer q y) (h.manager ∙ ap (λ q. (x.manager ++ map Ask x.a.inbox) ++ map Answer q)
        (none-accepted rules_d near.d n.d (manager_answer (x.manager ++ map Ask x.a.inbox))
        (λ y. manager_home (x.manager ++ map Ask x.a.inbox) y.head) (emptied x.d) o.d h.beats_d h.past.d z h.does_d).0 ∙
        append-nil (x.manager ++ map Ask x.a.inbox)))
        (stops-offer rules_d near.d n.d (manager_answer (x.manager ++ map Ask x.a.inbox)) (λ y. manager_home (x.manager ++ map Ask x.a.inbox) y.head)
        (emptied x.d) o.d h.beats_d h.past.d h.does_d);
    stop_e = stops-same rules_e near.e (n.e + steps o.e) (stops_alone rules_e x.e.accepted)
        (stops_alone rules_e h.past.e.accepted) h.past.e.accepted o.e
        (λ z y. ap (λ q. stops_alone rules_e q y)
        (none-accepted rules_e near.e n.e (stops_alone rules_e x.e.accepted) (λ _. 0) (emptied x.e) o.e h.beats_e h.past.e z h.does_e).1)
        (stops-offer rules_e near.e n.e (stops_alone rules_e x.e.accepted) (λ _. 0) (emptied x.e) o.e h.beats_e h.past.e h.does_e);
  }

  -- it has advanced in the round, or it is stopped and nothing is under way
  pub moves-round : Moves (all_progress n x) (all_progress (counted n o) (after_moves h.past)) (all_under_way (after_moves h.past))
      ((((IsStopped o.a × IsStopped o.b) × IsStopped o.c) × IsStopped o.d) × IsStopped o.e)
  moves-round =
      both-move (both-move (both-move (both-move
      (progress-round rules_a near.a n.a (client_answer (x.client ++ map Answer x.d.inbox)) (λ _. 0) far.a x.a o.a
      h.beats_a h.past.a i.a_sent h.does_a)
      (progress-round rules_b near.b n.b (stops_alone rules_b x.b.accepted) (λ _. 0) far.b x.b o.b h.beats_b h.past.b i.b_sent h.does_b))
      (progress-round rules_c near.c n.c (stops_alone rules_c x.c.accepted) (λ _. 0) far.c x.c o.c h.beats_c h.past.c i.c_sent h.does_c))
      (progress-round rules_d near.d n.d (manager_answer (x.manager ++ map Ask x.a.inbox)) (λ y. manager_home (x.manager ++ map Ask x.a.inbox) y.head)
      far.d x.d o.d h.beats_d h.past.d i.d_sent h.does_d))
      (progress-round rules_e near.e n.e (stops_alone rules_e x.e.accepted) (λ _. 0) far.e x.e o.e h.beats_e h.past.e i.e_sent h.does_e)

  -- the round
  pub has-round : (far' : Beats M C) (u : Bridge C M) → far' ≡ joined far (arriving x) → StandsFor u (after_moves h.past) → HasRound near n far' x u o
  has-round far' u same there = record {
    past = after_moves h.past;
    stands = there;
    is_at = subst (λ q. IsAt near (counted n o) q (after_moves h.past)) (sym same) at-round;
    stops = stops-there;
    keeps = moves-round.0;
    exact = round-is near n x t o h;
    goes = goes-on moves-round.1;
  }
    where
      goes-on : (all_progress n x + 1 ≤ all_progress (counted n o) (after_moves h.past)) ⊎
          (((((IsStopped o.a × IsStopped o.b) × IsStopped o.c) × IsStopped o.d) × IsStopped o.e) × (all_under_way (after_moves h.past) ≡ 0)) →
          (all_progress n x + 1 ≤ all_progress (counted n o) (after_moves h.past)) ⊎ (AreStopped o × (all_under_way (after_moves h.past) ≡ 0))
      goes-on (inl l) = inl l
      goes-on (inr (((((fa, fb), fc), fd), fe), z)) = inr ((fa, fb, fc, fd, fe), z)

-- ---- the preconditions of a round

module _ {C M : ℕ} (cw : IsWidth C) (mw : IsWidth M) (near : Beats C M) (n : PerChannel ℕ) where
  -- one beat more of each list may be counted
  pub counts-fit : (far : Beats M C) (x : Past C M) → IsAt near n far x → IsShort near → HaveRoomToCount n
  counts-fit far x i short = record {
    a = few-enough i.a_sent.most short.few_a;
    b = few-enough i.b_sent.most short.few_b;
    c = few-enough i.c_sent.most short.few_c;
    d = few-enough i.d_sent.most short.few_d;
    e = few-enough i.e_sent.most short.few_e;
  }

-- ---- the beats taken

module _ {C M : ℕ} where
  -- the beats in the inboxes are those that arrive
  pub inboxes-are : (s : Bridge C M) (x : Past C M) → StandsFor s x → inboxes s ≡ arriving x
  inboxes-are s x stands = rw (stands.a.inbox, stands.b.inbox, stands.c.inbox, stands.d.inbox, stands.e.inbox) refl

  -- the beats of two lists are as many as those of both
  pub joined-lengths : (bs cs : Beats M C) → added (lengths bs) (lengths cs) ≡ lengths (joined bs cs)
  joined-lengths bs cs =
      rw (length-append bs.a cs.a, length-append bs.b cs.b, length-append bs.c cs.c, length-append bs.d cs.d, length-append bs.e cs.e) refl
