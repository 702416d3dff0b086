-- A channel of a run in one thread advances by itself: the run represents the past with the accepted beats, or the same
-- past if no beat was accepted.
use Rattle.tl_run.proofs.Names.{◌≡◌, ◌+◌, ◌-◌, ◌++◌, ◌≤◌, ◌<◌, inr, ℕ, Option, None, List, length, map, [], refl, sym}
use Rattle.tl_run.proofs.Names.{subst, ◌∙◌, arith, Rules, rules_a, rules_b, rules_c, rules_d, rules_e, HeadA, HeadD, BeatOf, SideFault, fault_after}
use Rattle.tl_run.proofs.Names.{none_past, World, Ask, Answer, client_answer, manager_answer, manager_home, round, client_rests}
use Rattle.tl_run.proofs.Names.{manager_rests, Beats, PerChannel, Bridge, Past, StandsFor, stops_alone, IsPart, Does, IsSent, IsAt, steps}
use Rattle.tl_run.proofs.Names.{RestsIn, GoesAhead, GoesOn, passed_on, refused_by, again_count, out_count, pump_count}
use Rattle.tl_run.proofs.Names.{sends_a, sends_b, sends_c, sends_d, sends_e, bridge_client, bridge_manager}
use Rattle.tl_sides.specs.ChannelCalls.{passes_a, passes_b, passes_c, passes_d, passes_e}
use Rattle.tl_run.specs.Inner.Going.{at_first, one_more, stopped, through}
use Rattle.tl_run.proofs.Channels.{Going, HasGone, Passes, Stays, going_a, going_b, going_c, going_d, going_e}
use Rattle.tl_run.proofs.Channels.{passes_none, passes_stays, passes_then, rests_none, stays_same}
use Rattle.tl_run.proofs.Names.{SendingChannel, OffersNext, Offered, Accepted, NotReady}
use Rattle.tl_run.proofs.Names.{Stopped, Done, Cut, Refused}
use Rattle.tl_msg.specs.declared.head.HeadB.{HeadB}
use Rattle.tl_msg.specs.declared.head.HeadC.{HeadC}
use Rattle.tl_msg.specs.declared.head.HeadE.{HeadE}
use Rattle.tl_run.proofs.ChannelOffer.{homed-offer, sent-offer, sent-passed}
use Rattle.tl_offer.proofs.OfferSteps.{does-taken}
use Rattle.tl_parts.proofs.Parts.{part-get}
use Rattle.std.proofs.lemmas.Option.{slice_get_past}
use Rattle.tl_run.proofs.Round.{alone-own, client-own, manager-own}
use Rattle.tl_run.proofs.RoundMoves.{client-offers, manager-offers}

-- if none was accepted, the list of accepted beats is empty
none-accepted : (o : Offered) → (o ≡ Accepted → ⊥) → steps o ≡ 0
none-accepted Accepted never = absurd (never refl)
none-accepted NotReady never = refl
none-accepted (Stopped stop) never = refl

-- ---- an offer of a beat that is held

-- a place among what is held
not-past : {B : Type 0} (held : List B) (n : ℕ) → n < length held → length held ≤ n → ⊥
not-past held n within past = omega (arith, within, past)

module _ {H : Type 0} (r : Rules H) {w v : ℕ} (answer : BeatOf H w → Option SideFault) (home : BeatOf H w → ℕ) (x : World H w v) where
  module _ (discarded at : ℕ) (held near : List (BeatOf H w)) (part : IsPart discarded held near) (from : discarded ≤ at) (within : at - discarded < length held) where
    -- the outcome of the next held beat is that of the next beat of all
    does-part : (o : Offered) (accepted : List (BeatOf H w)) (y : World H w v) → Does r held (at - discarded) answer home x o accepted y →
        Does r near at answer home x o accepted y
    does-part Accepted accepted y (b, next, ok, one, made) = (b, part-get discarded at held near part from b next, ok, one, made)
    does-part NotReady accepted y (b, next, why, none, same) = (b, part-get discarded at held near part from b next, why, none, same)
    does-part (Stopped (Refused fault)) accepted y (b, next, is, none, same) = (b, part-get discarded at held near part from b next, is, none, same)
    does-part (Stopped Done) accepted y (past, rest, none, same) = absurd (not-past held (at - discarded) within (none_past held (at - discarded) past))
    does-part (Stopped Cut) accepted y (past, rest, none, same) = absurd (not-past held (at - discarded) within (none_past held (at - discarded) past))

  -- if none was accepted, the channel rests
  rests-held : (held : List (BeatOf H w)) (n : ℕ) → n < length held → (o : Offered) (accepted : List (BeatOf H w)) (y : World H w v) →
      steps o ≡ 0 → Does r held n answer home x o accepted y → RestsIn held n answer x (refused_by o)
  rests-held held n within Accepted accepted y none does = absurd (omega (arith, none))
  rests-held held n within NotReady accepted y none (b, next, why, no_beat, same) = inr (b, next, why)
  rests-held held n within (Stopped (Refused fault)) accepted y none (b, next, is, no_beat, same) = (b, next, is)
  rests-held held n within (Stopped Done) accepted y none (past, rest, no_beat, same) = absurd (not-past held n within (none_past held n past))
  rests-held held n within (Stopped Cut) accepted y none (past, rest, no_beat, same) = absurd (not-past held n within (none_past held n past))

  -- and nothing changes
  unchanged : (held : List (BeatOf H w)) (n : ℕ) → n < length held → (o : Offered) (accepted : List (BeatOf H w)) (y : World H w v) → steps o ≡ 0 →
      Does r held n answer home x o accepted y → (accepted ≡ []) × (y ≡ x)
  unchanged held n within Accepted accepted y none does = absurd (omega (arith, none))
  unchanged held n within NotReady accepted y none (b, next, why, no_beat, same) = (no_beat, same)
  unchanged held n within (Stopped (Refused fault)) accepted y none (b, next, is, no_beat, same) = (no_beat, same)
  unchanged held n within (Stopped Done) accepted y none (past, rest, no_beat, same) = absurd (not-past held n within (none_past held n past))
  unchanged held n within (Stopped Cut) accepted y none (past, rest, no_beat, same) = absurd (not-past held n within (none_past held n past))

module _ {S P H : Type 0} {w v : ℕ} (q : SendingChannel S P H w v) (held : List (BeatOf H w)) (discarded at : ℕ) (from : discarded ≤ at)
    (within : at - discarded < length held) (s t : S) (o : Offered)
    (none : steps o ≡ 0) (offers : OffersNext q held (at - discarded) s o t) where
  -- a side that accepted no beat represents the same past
  pub stays-next : (x : P) → q.Stands s x → q.Stands t x
  stays-next x h =
      let d = offers.does x h in
      let same = unchanged q.rules (q.stops x) (q.home x) (q.crossing x) held (at - discarded) within o d.0 d.1 none d.3 in
      subst (λ z. q.Stands t z) (q.kept x) (subst (λ z. q.Stands t (q.put (q.crossing x) z)) (q.noted x)
      (subst (λ y. q.Stands t (q.put y (q.note [] x))) same.1 (subst (λ l. q.Stands t (q.put d.1 (q.note l x))) same.0 d.2)))

  -- and the channel rests
  pub rests-next : (x : P) → q.Stands s x → RestsIn held (at - discarded) (q.stops x) (q.crossing x) (refused_by o)
  rests-next x h =
      let d = offers.does x h in
      rests-held q.rules (q.stops x) (q.home x) (q.crossing x) held (at - discarded) within o d.0 d.1 none d.3

-- ---- a beat was offered, and beats moved on

module _ {H : Type 0} (r : Rules H) {w v : ℕ} (bs : List (BeatOf H w)) (n : ℕ) (answer : BeatOf H w → Option SideFault)
    (home : BeatOf H w → ℕ) (x y : World H w v)
    (o : Offered) (accepted : List (BeatOf H w)) (does : Does r bs n answer home x o accepted y) where
  -- the first beats of the list were accepted
  sent-ahead : (i j k : ℕ) (far : List (BeatOf H v)) → IsSent r bs n far x →
      ((b : BeatOf H w) → answer b ≡ None → fault_after r x.accepted b ≡ None) →
      IsSent r bs (n + steps o) far (passed_on i j k y)
  sent-ahead i j k far s own =
      let before : IsSent r bs n x.taken x = sent-passed r bs n far x x s refl refl refl x.taken refl in
      let after : IsSent r bs (n + steps o) y.taken y = sent-offer r bs n answer home x o accepted y before own does in
      sent-passed r bs (n + steps o) y.taken y (passed_on i j k y) after refl refl refl far
      (s.taken ∙ sym (does-taken r bs n answer home x y o accepted does))

module _ {C M : ℕ} (i' j k : ℕ) (near : Beats C M) (n : PerChannel ℕ) (far : Beats M C) (x : Past C M) (i : IsAt near n far x) (s : Bridge C M)
    (stands : StandsFor s x) (o : Offered) where
  pub ahead-a : (accepted : List (BeatOf HeadA C)) (y : World HeadA C M) →
      Does rules_a near.a n.a (client_answer x.client) (λ _. 0) x.a o accepted y →
      IsAt near (record n { a = n.a + steps o }) far (record x { client = x.client ++ map Ask accepted; a = passed_on i' j k y })
  ahead-a accepted y does = record {
    run = round n.a n.d (n.a + steps o) n.d x.client (x.client ++ map Ask accepted) x.manager x.manager i.run
        (client-offers near.a near.d n.d n.a x.client n.a x.client (λ _. 0) x.a o accepted y client_rests does) manager_rests;
    a_sent = sent-ahead rules_a near.a n.a (client_answer x.client) (λ _. 0) x.a y o accepted does i' j k far.a i.a_sent
        (λ b f. subst (λ q. fault_after rules_a q b ≡ None) stands.client_asked (client-own x.client b f));
    b_sent = i.b_sent;
    c_sent = i.c_sent;
    d_sent = i.d_sent;
    e_sent = i.e_sent;
    a_homed = homed-offer rules_a near.a n.a (client_answer x.client) (λ _. 0) x.a o accepted y stands.a.crosses.handed i.a_homed (λ b. refl) does;
    b_homed = i.b_homed;
    c_homed = i.c_homed;
    e_homed = i.e_homed;
  }

  pub ahead-b : (accepted : List (BeatOf HeadB M)) (y : World HeadB M C) →
      Does rules_b near.b n.b (stops_alone rules_b x.b.accepted) (λ _. 0) x.b o accepted y →
      IsAt near (record n { b = n.b + steps o }) far (record x { b = passed_on i' j k y })
  ahead-b accepted y does = record {
    run = i.run;
    a_sent = i.a_sent;
    b_sent = sent-ahead rules_b near.b n.b (stops_alone rules_b x.b.accepted) (λ _. 0) x.b y o accepted does i' j k far.b i.b_sent
        (λ b f. alone-own rules_b x.b.accepted b f);
    c_sent = i.c_sent;
    d_sent = i.d_sent;
    e_sent = i.e_sent;
    a_homed = i.a_homed;
    b_homed = homed-offer rules_b near.b n.b (stops_alone rules_b x.b.accepted) (λ _. 0) x.b o accepted y
        stands.b.crosses.handed i.b_homed (λ b. refl) does;
    c_homed = i.c_homed;
    e_homed = i.e_homed;
  }

  pub ahead-c : (accepted : List (BeatOf HeadC C)) (y : World HeadC C M) →
      Does rules_c near.c n.c (stops_alone rules_c x.c.accepted) (λ _. 0) x.c o accepted y →
      IsAt near (record n { c = n.c + steps o }) far (record x { c = passed_on i' j k y })
  ahead-c accepted y does = record {
    run = i.run;
    a_sent = i.a_sent;
    b_sent = i.b_sent;
    c_sent = sent-ahead rules_c near.c n.c (stops_alone rules_c x.c.accepted) (λ _. 0) x.c y o accepted does i' j k far.c i.c_sent
        (λ b f. alone-own rules_c x.c.accepted b f);
    d_sent = i.d_sent;
    e_sent = i.e_sent;
    a_homed = i.a_homed;
    b_homed = i.b_homed;
    c_homed = homed-offer rules_c near.c n.c (stops_alone rules_c x.c.accepted) (λ _. 0) x.c o accepted y
        stands.c.crosses.handed i.c_homed (λ b. refl) does;
    e_homed = i.e_homed;
  }

  pub ahead-d : (accepted : List (BeatOf HeadD M)) (y : World HeadD M C) →
      Does rules_d near.d n.d (manager_answer x.manager) (λ b. manager_home x.manager b.head) x.d o accepted y →
      IsAt near (record n { d = n.d + steps o }) far (record x { manager = x.manager ++ map Answer accepted; d = passed_on i' j k y })
  ahead-d accepted y does = record {
    run = round n.a n.d n.a (n.d + steps o) x.client x.client x.manager (x.manager ++ map Answer accepted) i.run client_rests
        (manager-offers near.a near.d n.a n.d x.manager n.d x.manager (λ b. manager_home x.manager b.head) x.d o accepted y manager_rests does);
    a_sent = i.a_sent;
    b_sent = i.b_sent;
    c_sent = i.c_sent;
    d_sent = sent-ahead rules_d near.d n.d (manager_answer x.manager) (λ b. manager_home x.manager b.head) x.d y o accepted does i' j k far.d i.d_sent
        (λ b f. subst (λ q. fault_after rules_d q b ≡ None) stands.manager_answered (manager-own x.manager b f));
    e_sent = i.e_sent;
    a_homed = i.a_homed;
    b_homed = i.b_homed;
    c_homed = i.c_homed;
    e_homed = i.e_homed;
  }

  pub ahead-e : (accepted : List (BeatOf HeadE C)) (y : World HeadE C M) →
      Does rules_e near.e n.e (stops_alone rules_e x.e.accepted) (λ _. 0) x.e o accepted y →
      IsAt near (record n { e = n.e + steps o }) far (record x { e = passed_on i' j k y })
  ahead-e accepted y does = record {
    run = i.run;
    a_sent = i.a_sent;
    b_sent = i.b_sent;
    c_sent = i.c_sent;
    d_sent = i.d_sent;
    e_sent = sent-ahead rules_e near.e n.e (stops_alone rules_e x.e.accepted) (λ _. 0) x.e y o accepted does i' j k far.e i.e_sent
        (λ b f. alone-own rules_e x.e.accepted b f);
    a_homed = i.a_homed;
    b_homed = i.b_homed;
    c_homed = i.c_homed;
    e_homed = homed-offer rules_e near.e n.e (stops_alone rules_e x.e.accepted) (λ _. 0) x.e o accepted y
        stands.e.crosses.handed i.e_homed (λ b. refl) does;
  }

-- ---- a channel goes ahead

-- on a bridge in one thread, if its staged beats are forwarded in this way
module _ {C M : ℕ} {H : Type 0} {w v : ℕ} (k : Going C M (BeatOf H w)) (q : SendingChannel (Bridge C M) (Past C M) H w v)
    (on : (s : Bridge C M) (x : Past C M) → (StandsFor s x → q.Stands s x) × (q.Stands s x → StandsFor s x))
    (Moves : Bridge C M → Bridge C M → Type 0)
    (moves : (t u : Bridge C M) → Moves t u → (i : ℕ) × (j : ℕ) × (l : ℕ) ×
    ((y : World H w v) (x : Past C M) → StandsFor t (q.put y x) → StandsFor u (q.put (passed_on i j l y) x)))
    (ahead : (i j l : ℕ) (near : Beats C M) (n : PerChannel ℕ) (far : Beats M C) (x : Past C M) → IsAt near n far x →
    (s : Bridge C M) → StandsFor s x → (o : Offered) (accepted : List (BeatOf H w)) (y : World H w v) →
    Does q.rules (k.list near) (k.count n) (q.stops x) (q.home x) (q.crossing x) o accepted y →
    IsAt near (k.set (k.count n + steps o) n) far (q.put (passed_on i j l y) (q.note accepted x)))
    (discarded : ℕ) (held : List (BeatOf H w)) where
  -- one beat was accepted, and what it gave passed on
  one-passes : (at : ℕ) (s t u : Bridge C M) → discarded ≤ at → at - discarded < length held → OffersNext q held (at - discarded) s Accepted t → Moves t u →
      Passes k discarded held at s (at + 1) u
  one-passes at s t u from within offers moved x stands =
      let m = moves t u moved in
      let h = offers.does x ((on s x).0 stands) in
      let after = q.put (passed_on m.0 m.1 m.2 h.1) (q.note h.0 x) in
      record {
        past = after;
        stands = m.3 h.1 (q.note h.0 x) ((on t (q.put h.1 (q.note h.0 x))).1 h.2);
        is_at = λ near n far part here is.
            let does = subst (λ c. Does q.rules (k.list near) c (q.stops x) (q.home x) (q.crossing x) Accepted h.0 h.1) (sym here)
            (does-part q.rules (q.stops x) (q.home x) (q.crossing x) discarded at held (k.list near) part from within Accepted h.0 h.1 h.3) in
            subst (λ c. IsAt near (k.set (c + 1) n) far after) here (ahead m.0 m.1 m.2 near n far x is s stands Accepted h.0 h.1 does);
      }

  module _ (at : ℕ) (s : Bridge C M) where
    least : (later : ℕ) (t : Bridge C M) → GoesOn (OffersNext q) Moves discarded held at s later t → at ≤ later
    least _ _ at_first = omega arith
    least _ _ (one_more i t' u v before from within offers moved) = let le = least i t' before in omega (arith, le)

    several-pass : (later : ℕ) (t : Bridge C M) → GoesOn (OffersNext q) Moves discarded held at s later t → Passes k discarded held at s later t
    several-pass _ _ at_first = passes_none k discarded held at s
    several-pass _ _ (one_more i t' u v before from within offers moved) =
        passes_then k discarded held at i (i + 1) s t' v (several-pass i t' before) (one-passes i t' u v from within offers moved)

    same-side : (later : ℕ) (t : Bridge C M) → GoesOn (OffersNext q) Moves discarded held at s later t → later ≡ at → s ≡ t
    same-side _ _ at_first e = refl
    same-side _ _ (one_more i t' u v before from within offers moved) e = absurd (omega (arith, e, least i t' before))

    pub has-gone : (later : ℕ) (t : Bridge C M) (o : Option SideFault) → GoesAhead (OffersNext q) Moves discarded held at s later t o →
        HasGone k q discarded held at s later t o
    has-gone _ _ _ (through later t goes past) = record {
      on = least later t goes;
      passes = several-pass later t goes;
      stays = λ e. subst (λ u. Stays s u) (same-side later t goes e) (stays_same s);
      rests = λ e. rests_none q held (at - discarded) s (slice_get_past held (at - discarded) (omega (arith, e, past)));
    }
    has-gone _ _ _ (stopped later t u step goes from within never offers) =
        let none = none-accepted step never in
        let stays : Stays t u = λ x h. (on u x).1 (stays-next q held discarded later from within t u step none offers x ((on t x).0 h)) in
        record {
          on = least later t goes;
          passes = passes_then k discarded held at later later s t u (several-pass later t goes) (passes_stays k discarded held later t u stays);
          stays = λ e. subst (λ p. Stays p u) (sym (same-side later t goes e)) stays;
          rests = λ e x h.
              let t_is = same-side later t goes e in
              subst (λ c. RestsIn held (c - discarded) (q.stops x) (q.crossing x) (refused_by step)) e
              (rests-next q held discarded later from within t u step none offers x (subst (λ p. q.Stands p x) t_is h));
        }

-- so each of the five does
module _ {C M : ℕ} (discarded : ℕ) where
  pub gone-a : (held : List (BeatOf HeadA C)) (at : ℕ) (s : Bridge C M) (later : ℕ) (t : Bridge C M) (o : Option SideFault) →
      GoesAhead (OffersNext (sends_a bridge_client)) passes_a discarded held at s later t o → HasGone going_a (sends_a bridge_client) discarded held at s later t o
  gone-a = has-gone going_a (sends_a bridge_client) (λ s x. (λ h. h, λ h. h)) passes_a
      (λ t u p. (pump_count t.a, out_count t.a, again_count t.a, λ y x h. p _ h)) ahead-a discarded

  pub gone-b : (held : List (BeatOf HeadB M)) (at : ℕ) (s : Bridge C M) (later : ℕ) (t : Bridge C M) (o : Option SideFault) →
      GoesAhead (OffersNext (sends_b bridge_manager)) passes_b discarded held at s later t o → HasGone going_b (sends_b bridge_manager) discarded held at s later t o
  gone-b = has-gone going_b (sends_b bridge_manager) (λ s x. (λ h. h, λ h. h)) passes_b
      (λ t u p. (pump_count t.b, out_count t.b, again_count t.b, λ y x h. p _ h)) ahead-b discarded

  pub gone-c : (held : List (BeatOf HeadC C)) (at : ℕ) (s : Bridge C M) (later : ℕ) (t : Bridge C M) (o : Option SideFault) →
      GoesAhead (OffersNext (sends_c bridge_client)) passes_c discarded held at s later t o → HasGone going_c (sends_c bridge_client) discarded held at s later t o
  gone-c = has-gone going_c (sends_c bridge_client) (λ s x. (λ h. h, λ h. h)) passes_c
      (λ t u p. (pump_count t.c, out_count t.c, again_count t.c, λ y x h. p _ h)) ahead-c discarded

  pub gone-d : (held : List (BeatOf HeadD M)) (at : ℕ) (s : Bridge C M) (later : ℕ) (t : Bridge C M) (o : Option SideFault) →
      GoesAhead (OffersNext (sends_d bridge_manager)) passes_d discarded held at s later t o → HasGone going_d (sends_d bridge_manager) discarded held at s later t o
  gone-d = has-gone going_d (sends_d bridge_manager) (λ s x. (λ h. h, λ h. h)) passes_d
      (λ t u p. (pump_count t.d, out_count t.d, again_count t.d, λ y x h. p _ h)) ahead-d discarded

  pub gone-e : (held : List (BeatOf HeadE C)) (at : ℕ) (s : Bridge C M) (later : ℕ) (t : Bridge C M) (o : Option SideFault) →
      GoesAhead (OffersNext (sends_e bridge_client)) passes_e discarded held at s later t o → HasGone going_e (sends_e bridge_client) discarded held at s later t o
  gone-e = has-gone going_e (sends_e bridge_client) (λ s x. (λ h. h, λ h. h)) passes_e
      (λ t u p. (pump_count t.e, out_count t.e, again_count t.e, λ y x h. p _ h)) ahead-e discarded
