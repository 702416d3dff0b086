-- A side rests within a round in which it moves no beat, and if both rest, nothing is under way.
use Rattle.std.proofs.Common.{◌≡◌, ◌≢◌, ◌+◌, ◌-◌, ◌≤◌, ◌⊎◌, ◌↔◌, inl, inr, ◌++◌, ℕ, zero, suc, Bool, true, Option, List, [], length, take, drop, min}
use Rattle.std.proofs.Common.{refl, sym, ap, subst, ◌∙◌, arith, append-nil, length-append, ⊎_elim}
use Rattle.std.proofs.lemmas.List.{nil_from_length}
use Rattle.tl_bridge.proofs.Words.{Rules, rules_a, rules_b, rules_c, rules_d, rules_e, HeadA, HeadB, HeadC, HeadD, HeadE, BeatOf, SideFault, STAGE_CAPACITY}
use Rattle.tl_bridge.proofs.Words.{World, inbox_room, Sending, Taking, Sends, Takes, Met, sent, received, known_free, known_items, room, Standing}
use Rattle.tl_bridge.proofs.Words.{Event, client_answer, manager_answer, manager_home, Beats, stops_alone, PerChannel, Pumps, Fetches, AreStanding}
use Rattle.tl_bridge.proofs.Words.{pump_count, fetch_count, ClientState, ManagerState, Does, IsSent, IsStopped, standing_count, steps, Offered}
use Rattle.tl_bridge.proofs.Words.{Accepted, NotReady, Stopped, all_steps, stage-full}
use Rattle.tl_bridge.specs.Inner.Sides.{SameClientEnds, SameManagerEnds, ClientHasOffered, ManagerHasOffered, ClientIsAt, ManagerIsAt, ClientRests}
use Rattle.tl_bridge.specs.Inner.Sides.{ManagerRests, SendRests, TakeRests}

-- the lesser of two numbers is zero
one-is-none : (n m : ℕ) → min n m ≤ 0 → (n ≡ 0) ⊎ (m ≡ 0)
one-is-none zero m least = inl refl
one-is-none (suc n) zero least = inr refl
one-is-none (suc n) (suc m) least = absurd (omega arith)

-- ---- the ends of one channel

module _ {K A H : Type 0} {v : ℕ} where
  -- a pump of no beat
  pump-rests : (s s1 s2 s3 : Sending K A H v) (o : Offered) → s1.producer ≡ s.producer → Pumps s1 s2 → pump_count s1 s2 ≡ 0 → s3 ≡ s2 →
      (s1.stage ≡ [] → IsStopped o) → SendRests s s3 o
  pump-rests s s1 s2 s3 o same h none rest stops =
      let staged : s3.stage ≡ s1.stage = ap (λ q. q.stage) rest ∙ h.pushed.stage ∙ ap (λ k. drop k s1.stage) none in
      let free : known_free s1 ≡ known_free s = ap (λ (p : _). known_free (record s { producer = p })) same in
      record {
        none_sent = ap (λ q. sent q) rest ∙ h.pushed.more_sent ∙ ap (λ k. sent s1 ++ take k s1.stage) none ∙ append-nil (sent s1) ∙
            ap (λ (p : _). sent (record s { producer = p })) same;
        why = ⊎_elim (λ e. inl (staged ∙ nil_from_length s1.stage e)) (λ e. inr (sym free ∙ e))
            (one-is-none (length s1.stage) (known_free s1) (subst (λ k. min (length s1.stage) (known_free s1) ≤ k) none h.least));
        stops = λ e. stops (sym staged ∙ e);
      }

  -- the beats that an end took out of its ring were taken from its inbox, before and after
  none-left : (t t' : Taking K A H v) (taken : List (BeatOf H v)) → received t' ≡ received t → received t ≡ taken → Takes t' taken → t'.inbox ≡ []
  none-left t t' taken same all takes =
      let had : length taken ≡ length taken + length t'.inbox = sym (ap length (same ∙ all)) ∙ ap length takes ∙ length-append taken t'.inbox in
      nil_from_length t'.inbox (omega arith)

  -- a fetch of no beat
  fetch-rests : (t t1 t2 t3 : Taking K A H v) (taken : List (BeatOf H v)) → t1.consumer ≡ t.consumer → t2 ≡ t1 → Fetches t2 t3 →
      fetch_count t2 t3 ≡ 0 → t.inbox ≡ [] →
      Takes t taken → Takes t3 taken → TakeRests t t3
  fetch-rests t t1 t2 t3 taken same rest h none empty before after =
      let moved : h.fetched.moved ≡ [] = nil_from_length h.fetched.moved (h.fetched.count ∙ none) in
      let end : t2.consumer ≡ t.consumer = ap (λ q. q.consumer) rest ∙ same in
      let stays : received t3 ≡ received t =
      h.fetched.received ∙ ap (λ q. received t2 ++ q) moved ∙ append-nil (received t2) ∙ ap (λ (p : _). received (record t { consumer = p })) end in
      let left : t3.inbox ≡ [] = none-left t t3 taken stays (before ∙ ap (λ q. taken ++ q) empty ∙ append-nil taken) after in
      let came : 0 ≡ length t2.inbox + length h.fetched.moved = sym (ap length left) ∙ ap length h.fetched.inbox ∙
      length-append t2.inbox h.fetched.moved in
      let known : length (known_items t2) ≡ 0 = no-more (length (known_items t2)) (length t2.inbox) (length h.fetched.moved) came
      (subst (λ k. min (length (known_items t2)) (inbox_room - length t2.inbox) ≤ k) none h.least) in
      record {
        none_received = stays;
        none_known = sym (ap (λ (p : _). known_items (record t { consumer = p })) end) ∙ nil_from_length (known_items t2) known;
        none_left = left;
      }
    where
      no-more : (known inbox moved : ℕ) → 0 ≡ inbox + moved → min known (STAGE_CAPACITY - inbox) ≤ 0 → known ≡ 0
      no-more known inbox moved e least = omega arith

  -- all beats of an inbox were taken
  pub none-behind : (t t' : Taking K A H v) (taken : List (BeatOf H v)) → t'.consumer ≡ t.consumer → Takes t taken →
      Takes t' (taken ++ t.inbox) → t'.inbox ≡ []
  none-behind t t' taken same before after =
      none-left t t' (taken ++ t.inbox) (ap (λ (p : _). received (record t { consumer = p })) same) before after

  -- an end that rests did so from before it was offered or taken from
  send-rests-since : (s s1 s2 : Sending K A H v) (o : Offered) → s1.producer ≡ s.producer → SendRests s1 s2 o → SendRests s s2 o
  send-rests-since s s1 s2 o same h = record {
    none_sent = h.none_sent ∙ ap (λ (p : _). sent (record s { producer = p })) same;
    why = ⊎_elim (λ e. inl e) (λ e. inr (sym (ap (λ (p : _). known_free (record s { producer = p })) same) ∙ e)) h.why;
    stops = h.stops;
  }

  take-rests-since : (t t1 t2 : Taking K A H v) → t1.consumer ≡ t.consumer → TakeRests t1 t2 → TakeRests t t2
  take-rests-since t t1 t2 same h = record {
    none_received = h.none_received ∙ ap (λ (p : _). received (record t { consumer = p })) same;
    none_known = sym (ap (λ (p : _). known_items (record t { consumer = p })) same) ∙ h.none_known;
    none_left = h.none_left;
  }

  -- both ends rest in a round after a meeting: the channel offers no more, and nothing of it is under way at the next meeting
  pub channel-rests : (s s' s'' : Sending K A H v) (t t' t'' : Taking K A H v) (o : Offered) (n : Standing) → received t ++ known_items t ≡ sent s →
      1 ≤ known_free s + length (known_items t) → SendRests s s' o → TakeRests t t' → Met s' t' s'' t'' → AreStanding s'' t'' n →
      IsStopped o × (standing_count n ≡ 0)
  channel-rests s s' s'' t t' t'' o n ring free f g m is =
      let none : length (known_items t) ≡ 0 = ap length g.none_known in
      let staged : s'.stage ≡ [] = ⊎_elim (λ e. e) (λ e. absurd (no-place (known_free s) (length (known_items t)) free e none)) f.why in
      let before : length (received t) + length (known_items t) ≡ length (sent s) =
      sym (length-append (received t) (known_items t)) ∙ ap length ring in
      let after : length (received t'') + length (known_items t'') ≡ length (sent s'') =
      sym (length-append (received t'') (known_items t'')) ∙ ap length m.ring in (
        f.stops staged,
        sums is.staged is.in_ring is.inbox (ap length (m.same_stage ∙ staged))
            (no-beat _ _ _ _ _ _ before after none (ap length (m.same_received ∙ g.none_received)) (ap length (m.same_sent ∙ f.none_sent)))
            (ap length (m.same_inbox ∙ g.none_left)),
      )
    where
      no-place : (free known : ℕ) → 1 ≤ free + known → free ≡ 0 → known ≡ 0 → ⊥
      no-place free known some e f = omega arith

      no-beat : (out known into out' known' into' : ℕ) → out + known ≡ into → out' + known' ≡ into' → known ≡ 0 →
          out' ≡ out → into' ≡ into → known' ≡ 0
      no-beat out known into out' known' into' a b c d e = omega arith

      sums : {p q u p' q' u' : ℕ} → p ≡ p' → q ≡ q' → u ≡ u' → p' ≡ 0 → q' ≡ 0 → u' ≡ 0 → p + q + u ≡ 0
      sums a b c d e f = omega arith

-- a sending end knows a free place after a meeting, or a beat is in the ring
pub some-free : {K A H : Type 0} (r : Rules H) {w v : ℕ} (s s' : Sending K A H v) (t t' : Taking K A H v)
    (x : World H w v) → Sends r s x → Met s t s' t' →
    1 ≤ known_free s' + length (known_items t')
some-free r s s' t t' x sends m = bounds (room s) x.room _ sends.pipe.room sends.some_room m.all_free
  where
    bounds : (room size all : ℕ) → room ≡ size → 1 ≤ size → room ≤ all → 1 ≤ all
    bounds room size all e some most = omega arith

-- no beat was accepted: if nothing is staged, the channel offers no more
offer-stops : {H : Type 0} (r : Rules H) {w v : ℕ} (bs : List (BeatOf H w)) (n : ℕ) (answer : BeatOf H w → Option SideFault) (home : BeatOf H w → ℕ)
    (x : World H w v) (o : Offered)
    (accepted : List (BeatOf H w)) (y : World H w v) → IsSent r bs n x.taken x → Does r bs n answer home x o accepted y →
    steps o ≡ 0 → y.stage ≡ [] → IsStopped o
offer-stops r bs n answer home x Accepted accepted y s does none empty = absurd (omega arith)
offer-stops r bs n answer home x NotReady accepted y s (b, next, full, one, is) none empty =
    stage-full r bs n answer home x.taken x s b next full (sym (ap (λ q. q.stage) is) ∙ empty)
offer-stops r bs n answer home x (Stopped stop) accepted y s does none empty = tt

-- ---- a turn of a side

-- a turn accepted some beats and moved some others: it moved one, or there was none of either
pub moves-or : (steps others : ℕ) (moved accepted : Bool) (Rests : Type 0) → ((moved ≡ true) ↔ ((steps ≢ 0) ⊎ (others ≢ 0))) →
    ((accepted ≡ true) ↔ (steps ≢ 0)) →
    (steps ≡ 0 → others ≡ 0 → Rests) → (moved ≡ true) ⊎ ((accepted ≢ true) × Rests)
moves-or zero zero moved accepted Rests f g rests = inr (λ e. g.0 e refl, rests refl refl)
moves-or zero (suc others) moved accepted Rests f g rests = inl (f.1 (inr (λ e. absurd (omega arith))))
moves-or (suc steps) others moved accepted Rests f g rests = inl (f.1 (inl (λ e. absurd (omega arith))))

module _ {A : Type 0} {C M : ℕ} (near : Beats C M) (n : PerChannel ℕ) where
  -- a side offered its next beats, pumped and fetched, and no beat was accepted or moved
  pub client-rests : (j m : ℕ) (es : List (Event C)) (far_b : List (BeatOf HeadB C)) (far_of_d : List (BeatOf HeadD C))
      (s t u v : ClientState A C M) (o p : PerChannel Offered)
      (pumped fetched : ℕ) → SameClientEnds s t → (h : ClientIsAt near j m es n far_b far_of_d s o) → ClientHasOffered near n h.past t p →
      u ≡ record t { a = u.a; c = u.c; e = u.e } → Pumps t.a u.a → Pumps t.c u.c → Pumps t.e u.e →
      pumped ≡ pump_count t.a u.a + pump_count t.c u.c + pump_count t.e u.e →
      v ≡ record u { b = v.b; d = v.d } → Fetches u.b v.b → Fetches u.d v.d → fetched ≡ fetch_count u.b v.b + fetch_count u.d v.d →
      all_steps p ≡ 0 → pumped + fetched ≡ 0 → Takes v.b far_b → Takes v.d far_of_d → s.b.inbox ≡ [] → s.d.inbox ≡ [] → ClientRests s v p
  client-rests j m es far_b far_of_d s t u v o p pumped fetched ends h k rest a c e total rest' b d total' none-accepted none-moved
      takes_b takes_d none_b none_d =
      let x = h.past in
      let y = k.past in
      record {
        a = pump-rests s.a t.a u.a v.a p.a ends.a a (omega arith) (ap (λ q. q.a) rest')
            (λ z. offer-stops rules_a near.a n.a (client_answer x.history) (λ _. 0) x.a p.a k.beats_a y.a h.a_sent k.does_a (omega arith)
            (sym k.stands.a.pipe.stage ∙ z));
        b = fetch-rests s.b t.b u.b v.b far_b ends.b (ap (λ q. q.b) rest) b (omega arith) none_b
            (subst (λ q. Takes s.b q) (sym h.b_taken) h.stands.b) takes_b;
        c = pump-rests s.c t.c u.c v.c p.c ends.c c (omega arith) (ap (λ q. q.c) rest')
            (λ z. offer-stops rules_c near.c n.c (stops_alone rules_c x.c.accepted) (λ _. 0) x.c p.c k.beats_c y.c h.c_sent k.does_c (omega arith)
            (sym k.stands.c.pipe.stage ∙ z));
        d = fetch-rests s.d t.d u.d v.d far_of_d ends.d (ap (λ q. q.d) rest) d (omega arith) none_d
            (subst (λ q. Takes s.d q) (sym h.d_taken) h.stands.d) takes_d;
        e = pump-rests s.e t.e u.e v.e p.e ends.e e (omega arith) (ap (λ q. q.e) rest')
            (λ z. offer-stops rules_e near.e n.e (stops_alone rules_e x.e.accepted) (λ _. 0) x.e p.e k.beats_e y.e h.e_sent k.does_e (omega arith)
            (sym k.stands.e.pipe.stage ∙ z));
      }

  pub manager-rests : (i m : ℕ) (es : List (Event M)) (far_of_a : List (BeatOf HeadA M)) (far_c : List (BeatOf HeadC M))
      (far_e : List (BeatOf HeadE M)) (s t u v : ManagerState A C M)
      (o p : PerChannel Offered) (pumped fetched : ℕ) → SameManagerEnds s t → (h : ManagerIsAt near i m es n far_of_a far_c far_e s o) →
      ManagerHasOffered near n h.past t p →
      u ≡ record t { b = u.b; d = u.d } → Pumps t.b u.b → Pumps t.d u.d → pumped ≡ pump_count t.b u.b + pump_count t.d u.d →
      v ≡ record u { a = v.a; c = v.c; e = v.e } → Fetches u.a v.a → Fetches u.c v.c → Fetches u.e v.e →
      fetched ≡ fetch_count u.a v.a + fetch_count u.c v.c + fetch_count u.e v.e →
      all_steps p ≡ 0 → pumped + fetched ≡ 0 → Takes v.a far_of_a → Takes v.c far_c → Takes v.e far_e → s.a.inbox ≡ [] → s.c.inbox ≡ [] →
      s.e.inbox ≡ [] → ManagerRests s v p
  manager-rests i m es far_of_a far_c far_e s t u v o p pumped fetched ends h k rest b d total rest' a c e total' none-accepted none-moved takes_a
      takes_c takes_e none_a none_c none_e =
      let x = h.past in
      let y = k.past in
      record {
        a = fetch-rests s.a t.a u.a v.a far_of_a ends.a (ap (λ q. q.a) rest) a (omega arith) none_a
            (subst (λ q. Takes s.a q) (sym h.a_taken) h.stands.a) takes_a;
        b = pump-rests s.b t.b u.b v.b p.b ends.b b (omega arith) (ap (λ q. q.b) rest')
            (λ z. offer-stops rules_b near.b n.b (stops_alone rules_b x.b.accepted) (λ _. 0) x.b p.b k.beats_b y.b h.b_sent k.does_b (omega arith)
            (sym k.stands.b.pipe.stage ∙ z));
        c = fetch-rests s.c t.c u.c v.c far_c ends.c (ap (λ q. q.c) rest) c (omega arith) none_c
            (subst (λ q. Takes s.c q) (sym h.c_taken) h.stands.c) takes_c;
        d = pump-rests s.d t.d u.d v.d p.d ends.d d (omega arith) (ap (λ q. q.d) rest')
            (λ z. offer-stops rules_d near.d n.d (manager_answer x.history) (λ b. manager_home x.history b.head) x.d p.d k.beats_d y.d h.d_sent
            k.does_d (omega arith) (sym k.stands.d.pipe.stage ∙ z));
        e = fetch-rests s.e t.e u.e v.e far_e ends.e (ap (λ q. q.e) rest) e (omega arith) none_e
            (subst (λ q. Takes s.e q) (sym h.e_taken) h.stands.e) takes_e;
      }

-- a side that rests has rested since before it took the beats of its inboxes
module _ {A : Type 0} {C M : ℕ} where
  pub client-rests-since : (s t u : ClientState A C M) (o : PerChannel Offered) → SameClientEnds s t → ClientRests t u o → ClientRests s u o
  client-rests-since s t u o ends h = record {
    a = send-rests-since s.a t.a u.a o.a ends.a h.a;
    b = take-rests-since s.b t.b u.b ends.b h.b;
    c = send-rests-since s.c t.c u.c o.c ends.c h.c;
    d = take-rests-since s.d t.d u.d ends.d h.d;
    e = send-rests-since s.e t.e u.e o.e ends.e h.e;
  }

  pub manager-rests-since : (s t u : ManagerState A C M) (o : PerChannel Offered) → SameManagerEnds s t → ManagerRests t u o → ManagerRests s u o
  manager-rests-since s t u o ends h = record {
    a = take-rests-since s.a t.a u.a ends.a h.a;
    b = send-rests-since s.b t.b u.b o.b ends.b h.b;
    c = take-rests-since s.c t.c u.c ends.c h.c;
    d = send-rests-since s.d t.d u.d o.d ends.d h.d;
    e = take-rests-since s.e t.e u.e ends.e h.e;
  }
