-- Both sides of a run at a meeting: they are as one bridge in one thread.
use Rattle.std.proofs.Common.{◌≡◌, ◌+◌, ◌≤◌, ◌⊎◌, inl, inr, ◌++◌, ℕ, true, List, length, map, refl, sym, ap, subst, ◌∙◌, arith, length-append}
use Rattle.std.proofs.Common.{⊎_elim}
use Rattle.std.specs.Global.{Global}
use mathlib.Core.List.{IsPrefix}
use Rattle.tl_bridge.proofs.Words.{IsWidth, Rules, rules_a, rules_b, rules_c, rules_d, rules_e, BeatOf, World, Sending, Taking, Met, Meets, seen_by}
use Rattle.tl_bridge.proofs.Words.{sent, received, known_items, Standing, asked, answered, round, client_rests, manager_rests, far_a, far_d, Beats}
use Rattle.tl_bridge.proofs.Words.{StandsFor, PerChannel, AreStanding, ClientState, ManagerState, ClientPast, ManagerPast, ClientStandsFor}
use Rattle.tl_bridge.proofs.Words.{ManagerStandsFor, AreSides, SidesMeet, new_client, new_manager, no_beats, IsShort, HasRoomFor, beats_of, AllStop}
use Rattle.tl_bridge.proofs.Words.{AreStopped, HasEnded, HaveRoomToCount, all_progress, all_standing, all_stopped, all_under_way, progress}
use Rattle.tl_bridge.proofs.Words.{standing_count, under_way, Stop, inbox-due, sent-passed, same-sums, begins, progress-is, progress-ends, run_end}
use Rattle.tl_bridge.proofs.Words.{counts-fit, due-a, due-d, of_both, Offered, Turn}
use Rattle.tl_burst.specs.Begun.{heads}
use Rattle.tl_burst.specs.Handing.{IsHandedWith}
use Rattle.tl_ring.specs.Pipe as piping
use Rattle.tl_lanes.proofs.Widths.{width_bounds}
use Rattle.tl_settle.proofs.InOrder.{run_in_order}
use Rattle.tl_settle.proofs.RunsObey.{run_obeys}
use Rattle.tl_settle.specs.Histories.{manager_homes}
use Rattle.tl_settle.specs.Obeying.{ObeysRules}
use Rattle.tl_bridge.specs.Inner.Arriving.{HasRoomForInboxes, taken_of}
use Rattle.tl_bridge.specs.Inner.Sides.{ClientIsAt, ManagerIsAt, MayPlay, HasPlayedTurns, RoundOf, ClientRests, ManagerRests, client_playing}
use Rattle.tl_bridge.specs.Inner.Sides.{manager_playing, HasMet, HasPlayed, AreNew, bridge_of, met_progress, none_ready, past_of, pipe_of}
use Rattle.tl_bridge.specs.declared.client_turns.ClientRun.{ClientRun}
use Rattle.tl_bridge.specs.declared.manager_turns.ManagerRun.{ManagerRun}
use Rattle.tl_bridge.proofs.Resting.{channel-rests, some-free}
use Rattle.tl_bridge.proofs.Rooms.{inboxes-fit}

-- ---- one channel

module _ {K A H : Type 0} (r : Rules H) {w v : ℕ} (s : Sending K A H v) (t : Taking K A H v) (x : World H w v) (taken : List (BeatOf H v))
    (m : Meets r s t x taken) where
  -- both ends are as a pipe
  met-pipe : piping.StandsFor r (pipe_of s t) (seen_by r t x taken)
  met-pipe = record {
    outbox = m.outbox;
    some_room = m.sends.some_room;
    room = m.sends.pipe.room;
    stage = m.sends.pipe.stage;
    ring = refl;
    inbox = refl;
    closed = m.sends.pipe.closed;
    reached = m.reached;
    crosses = m.crosses;
  }

  -- the progress of the channel
  met-progress : (n : ℕ) → received t ++ known_items t ≡ sent s → progress n (seen_by r t x taken) ≡ n + length (sent s) + length (received t)
  met-progress n ring =
      let out : length (received t) ≡ length taken + length t.inbox = ap length m.takes ∙ length-append taken t.inbox in
      let into : length (sent s) ≡ length (received t) + length (known_items t) = sym (ap length ring) ∙ length-append (received t) (known_items t) in
      sums n (length taken) (length t.inbox) (length (known_items t)) (length (sent s)) (length (received t)) out into
    where
      sums : (n taken inbox ring into out : ℕ) → out ≡ taken + inbox → into ≡ out + ring →
          n + (taken + inbox + ring) + (taken + inbox) ≡ n + into + out
      sums n taken inbox ring into out e f = omega arith

  -- how many beats are under way
  met-standing : (n : Standing) → AreStanding s t n → standing_count n ≡ under_way (seen_by r t x taken)
  met-standing n is = sums is.staged is.in_ring is.inbox (ap length m.sends.pipe.stage)
    where
      sums : {p q u p' q' u' p'' : ℕ} → p ≡ p' → q ≡ q' → u ≡ u' → p' ≡ p'' → p + q + u ≡ p'' + q' + u'
      sums e f g h = omega arith

-- an end that has met has the same progress as before
met-sent : {K A H : Type 0} {v : ℕ} (s : Sending K A H v) (t : Taking K A H v) (s' : Sending K A H v) (t' : Taking K A H v) → Met s t s' t' →
    length (sent s') ≡ length (sent s)
met-sent s t s' t' m = ap length m.same_sent

met-received : {K A H : Type 0} {v : ℕ} (s : Sending K A H v) (t : Taking K A H v) (s' : Sending K A H v) (t' : Taking K A H v) → Met s t s' t' →
    length (received t') ≡ length (received t)
met-received s t s' t' m = ap length m.same_received

-- ---- both sides

module _ {A : Type 0} {C M : ℕ} (near : Beats C M) (n : PerChannel ℕ) (far : Beats M C) (s : ClientState A C M) (t : ManagerState A C M)
    (h : HasMet near n far s t) where
  -- in a run in rounds both links obey the rules
  met-legal : ObeysRules h.client.history × ObeysRules h.manager.history
  met-legal =
      run_obeys h.meet.a.outbox.near h.meet.a.outbox.far near.a near.d h.is_at.run
      (subst (λ bs. IsHandedWith rules_a bs (map (λ q. q.address) (heads rules_a C bs))) (sym h.meet.client.accepted)
      (subst (λ hs. IsHandedWith rules_a h.client.a.accepted hs) h.is_at.a_homed h.meet.a.outbox.converter.handed))
      (subst (λ bs. IsHandedWith rules_d bs (manager_homes h.manager.history)) (sym h.meet.manager.accepted)
      (subst (λ hs. IsHandedWith rules_d h.manager.d.accepted hs) (sym h.meet.manager.homes) h.meet.d.outbox.converter.handed))

  -- the bridge that both sides form represents their past
  pub met-stands : StandsFor (bridge_of s t) (past_of s t h.client h.manager)
  met-stands = record {
    a = met-pipe rules_a s.a t.a h.client.a (asked h.manager.history) h.meet.a;
    b = met-pipe rules_b t.b s.b h.manager.b h.client.b h.meet.b;
    c = met-pipe rules_c s.c t.c h.client.c h.manager.c h.meet.c;
    d = met-pipe rules_d t.d s.d h.manager.d (answered h.client.history) h.meet.d;
    e = met-pipe rules_e s.e t.e h.client.e h.manager.e h.meet.e;
    client_asked = h.meet.client.accepted;
    client_answered = refl;
    manager_asked = refl;
    manager_answered = h.meet.manager.accepted;
    homes = h.meet.manager.homes;
    client = h.meet.client.book;
    manager = h.meet.manager.book;
    client_obeys = met-legal.0;
    manager_obeys = met-legal.1;
    order = run_in_order (width_bounds C h.meet.a.outbox.near).0 (width_bounds M h.meet.a.outbox.far).0 near.a near.d h.is_at.run;
  }

  -- the progress of the run is the sum of those of both sides
  pub met-way : met_progress n s t ≡ all_progress n (past_of s t h.client h.manager)
  met-way =
      sums _ _ _ _ _ _ _ _ _ _ _ _ _ _ _ _ _ _ _ _
      (met-progress rules_a s.a t.a h.client.a (asked h.manager.history) h.meet.a n.a h.ring_a)
      (met-progress rules_b t.b s.b h.manager.b h.client.b h.meet.b n.b h.ring_b)
      (met-progress rules_c s.c t.c h.client.c h.manager.c h.meet.c n.c h.ring_c)
      (met-progress rules_d t.d s.d h.manager.d (answered h.client.history) h.meet.d n.d h.ring_d)
      (met-progress rules_e s.e t.e h.client.e h.manager.e h.meet.e n.e h.ring_e)
    where
      sums : (a b c d e ka ia oa kb ib ob kc ic oc kd id od ke ie oe : ℕ) → a ≡ ka + ia + oa → b ≡ kb + ib + ob → c ≡ kc + ic + oc →
          d ≡ kd + id + od → e ≡ ke + ie + oe →
          (ka + kc + ke + ia + ic + ie + ob + od) + (kb + kd + ib + id + oa + oc + oe) ≡ a + b + c + d + e
      sums a b c d e ka ia oa kb ib ob kc ic oc kd id od ke ie oe p q r s t = omega arith

  -- the state in which it has ended
  pub met-ended : (stops : PerChannel Stop) (count : ℕ) → AllStop near n (past_of s t h.client h.manager) (all_stopped stops) →
      all_under_way (past_of s t h.client h.manager) ≡ 0 → count ≤ met_progress n s t + 1 → HasEnded near n far (bridge_of s t) stops count
  met-ended stops count stop rest few = record {
    past = past_of s t h.client h.manager;
    stands = met-stands;
    is_at = h.is_at;
    all_stop = stop;
    at_rest = rest;
    few_rounds = subst (λ k. count ≤ k + 1) met-way few;
  }

  -- its progress is bounded by this
  pub met-most : IsWidth C → IsWidth M → met_progress n s t ≤ run_end near
  met-most cw mw =
      let x = past_of s t h.client h.manager in
      subst (λ k. k ≤ run_end near) (progress-is near n far (bridge_of s t) x met-stands h.is_at ∙ sym met-way)
      (progress-ends near cw mw n far (bridge_of s t) x met-stands h.is_at)

  -- ---- a round begins

  module _ (cw : IsWidth C) (mw : IsWidth M) where
    -- each side is at its beginning
    pub client-begins : ClientIsAt near n.d n.a h.client.history n far.b far.d s none_ready
    client-begins = record {
      past = h.client;
      stands = h.meet.client;
      moves = client_rests;
      a_sent = sent-passed rules_a near.a n.a far.a (past_of s t h.client h.manager).a h.client.a h.is_at.a_sent refl refl refl h.client.a.taken refl;
      c_sent = sent-passed rules_c near.c n.c far.c (past_of s t h.client h.manager).c h.client.c h.is_at.c_sent refl refl refl h.client.c.taken refl;
      e_sent = sent-passed rules_e near.e n.e far.e (past_of s t h.client h.manager).e h.client.e h.is_at.e_sent refl refl refl h.client.e.taken refl;
      a_homed = h.is_at.a_homed;
      c_homed = h.is_at.c_homed;
      e_homed = h.is_at.e_homed;
      b_taken = h.is_at.b_sent.taken;
      d_taken = h.is_at.d_sent.taken;
      stop_a = tt;
      stop_c = tt;
      stop_e = tt;
    }

    pub manager-begins : ManagerIsAt near n.a n.d h.manager.history n far.a far.c far.e t none_ready
    manager-begins = record {
      past = h.manager;
      stands = h.meet.manager;
      moves = manager_rests;
      b_sent = sent-passed rules_b near.b n.b far.b (past_of s t h.client h.manager).b h.manager.b h.is_at.b_sent refl
          refl refl h.manager.b.taken refl;
      d_sent = sent-passed rules_d near.d n.d far.d (past_of s t h.client h.manager).d h.manager.d h.is_at.d_sent refl
          refl refl h.manager.d.taken refl;
      b_homed = h.is_at.b_homed;
      a_taken = h.is_at.a_sent.taken;
      c_taken = h.is_at.c_sent.taken;
      e_taken = h.is_at.e_sent.taken;
      stop_b = tt;
      stop_d = tt;
    }

    -- all beats in its inboxes are due
    pub client-due : IsPrefix (far.d ++ s.d.inbox) (far_d near.a near.d n.d)
    client-due =
        let x = past_of s t h.client h.manager in
        inbox-due rules_d x.d h.meet.d.crosses far.d h.is_at.d_sent.taken (far_d near.a near.d n.d)
        (due-d cw mw near.a near.d n.a n.d (bridge_of s t) x met-stands h.is_at.run h.is_at.a_homed)

    pub manager-due : IsPrefix (far.a ++ t.a.inbox) (far_a near.a near.d n.a)
    manager-due =
        let x = past_of s t h.client h.manager in
        inbox-due rules_a x.a h.meet.a.crosses far.a h.is_at.a_sent.taken (far_a near.a near.d n.a)
        (due-a cw mw near.a near.d n.a n.d (bridge_of s t) x met-stands h.is_at.run h.is_at.a_homed)

module _ {C M : ℕ} (cw : IsWidth C) (mw : IsWidth M) (near : Beats C M) (short : IsShort near) (n : PerChannel ℕ)
    (x : ClientRun C M) (y : ManagerRun C M)
    (h : HasMet near n (beats_of (taken_of x y)) x.side y.side) (has : HasRoomFor near (taken_of x y)) where
  -- so each side may play
  few : HaveRoomToCount n
  few = counts-fit cw mw near n (beats_of (taken_of x y)) (past_of x.side y.side h.client h.manager) h.is_at short

  fit : HasRoomForInboxes (bridge_of x.side y.side) (taken_of x y)
  fit =
      let far = beats_of (taken_of x y) in
      inboxes-fit cw mw near n (taken_of x y) (bridge_of x.side y.side) (past_of x.side y.side h.client h.manager)
      (met-stands near n far x.side y.side h) h.is_at has

  pub client-may : MayPlay client_playing near n x
  client-may = record {
    few = few;
    round = record { a = n.a; d = n.d; history = h.client.history };
    is_at = client-begins near n (beats_of (taken_of x y)) x.side y.side h cw mw;
    due = client-due near n (beats_of (taken_of x y)) x.side y.side h cw mw;
    room = (fit.b, fit.d);
  }

  pub manager-may : MayPlay manager_playing near n y
  manager-may = record {
    few = few;
    round = record { a = n.a; d = n.d; history = h.manager.history };
    is_at = manager-begins near n (beats_of (taken_of x y)) x.side y.side h cw mw;
    due = manager-due near n (beats_of (taken_of x y)) x.side y.side h cw mw;
    room = (fit.a, fit.c, fit.e);
  }

-- ---- a meeting

-- both sides after a meeting of these
pub record Meeting {A : Type 0} {C M : ℕ} (s : ClientState A C M) (t : ManagerState A C M) (s' : ClientState A C M) (t' : ManagerState A C M)
    (standings : PerChannel Standing) : Type 0 where
  pub a : Met s.a t.a s'.a t'.a
  pub b : Met t.b s.b t'.b s'.b
  pub c : Met s.c t.c s'.c t'.c
  pub d : Met t.d s.d t'.d s'.d
  pub e : Met s.e t.e s'.e t'.e
  pub in_a : AreStanding s'.a t'.a standings.a
  pub in_b : AreStanding t'.b s'.b standings.b
  pub in_c : AreStanding s'.c t'.c standings.c
  pub in_d : AreStanding t'.d s'.d standings.d
  pub in_e : AreStanding s'.e t'.e standings.e

module _ {A : Type 0} {C M : ℕ} (s : ClientState A C M) (t : ManagerState A C M) (s' : ClientState A C M) (t' : ManagerState A C M)
    (standings : PerChannel Standing) (m : Meeting s t s' t' standings) where
  still-sides : AreSides s' t'
  still-sides = record { a = m.a.pair; b = m.b.pair; c = m.c.pair; d = m.d.pair; e = m.e.pair }

  same-progress : (n : PerChannel ℕ) → met_progress n s' t' ≡ met_progress n s t
  same-progress n =
      sums _ _ _ _ _ _ _ _ _ _ _ _ _ _ _ _ _ _ _ _ _ _ _ _ _ (met-sent s.a t.a s'.a t'.a m.a) (met-sent t.b s.b t'.b s'.b m.b)
      (met-sent s.c t.c s'.c t'.c m.c) (met-sent t.d s.d t'.d s'.d m.d) (met-sent s.e t.e s'.e t'.e m.e)
      (met-received s.a t.a s'.a t'.a m.a) (met-received t.b s.b t'.b s'.b m.b) (met-received s.c t.c s'.c t'.c m.c)
      (met-received t.d s.d t'.d s'.d m.d) (met-received s.e t.e s'.e t'.e m.e)
    where
      sums : (ka kb kc kd ke sa sb sc sd se ra rb rc rd re sa' sb' sc' sd' se' ra' rb' rc' rd' re' : ℕ) → sa' ≡ sa → sb' ≡ sb →
          sc' ≡ sc → sd' ≡ sd → se' ≡ se →
          ra' ≡ ra → rb' ≡ rb → rc' ≡ rc → rd' ≡ rd → re' ≡ re →
          (ka + kc + ke + sa' + sc' + se' + rb' + rd') + (kb + kd + sb' + sd' + ra' + rc' + re') ≡ (ka + kc + ke + sa + sc + se + rb + rd) +
          (kb + kd + sb + sd + ra + rc + re)
      sums v0 v1 v2 v3 v4 v5 v6 v7 v8 v9 v10 v11 v12 v13 v14 v15 v16 v17 v18 v19 v20 v21 v22 v23 v24 a b c d e f g h i j = omega arith

  -- two new sides have met
  pub new-met : (near : Beats C M) (n : PerChannel ℕ) (far : Beats M C) → n ≡ record { a = 0; b = 0; c = 0; d = 0; e = 0 } →
      far ≡ no_beats → (new : AreNew s t) →
      SidesMeet s' t' (new_client new.space) (new_manager new.space) → HasMet near n far s' t'
  new-met near n far none empty new meets =
      record {
        client = new_client new.space;
        manager = new_manager new.space;
        sides = still-sides;
        meet = meets;
        ring_a = m.a.ring;
        ring_b = m.b.ring;
        ring_c = m.c.ring;
        ring_d = m.d.ring;
        ring_e = m.e.ring;
        free_a = some-free rules_a s.a s'.a t.a t'.a (new_client new.space).a new.client.a m.a;
        free_b = some-free rules_b t.b t'.b s.b s'.b (new_manager new.space).b new.manager.b m.b;
        free_c = some-free rules_c s.c s'.c t.c t'.c (new_client new.space).c new.client.c m.c;
        free_d = some-free rules_d t.d t'.d s.d s'.d (new_manager new.space).d new.manager.d m.d;
        free_e = some-free rules_e s.e s'.e t.e t'.e (new_client new.space).e new.client.e m.e;
        is_at = begins near n far new.space (past_of s' t' (new_client new.space) (new_manager new.space)) none empty new.some;
      }

-- both sides have played a round, and met
module _ {C M : ℕ} (cw : IsWidth C) (mw : IsWidth M) (near : Beats C M) (n : PerChannel ℕ) (x : ClientRun C M) (y : ManagerRun C M)
    (h : HasMet near n (beats_of (taken_of x y)) x.side y.side) (x' : ClientRun C M) (y' : ManagerRun C M) (there back : Turn)
    (client : HasPlayedTurns client_playing near n x x' there) (manager : HasPlayedTurns manager_playing near n y y' back)
    (s' : ClientState Global C M) (t' : ManagerState Global C M)
    (standings : PerChannel Standing) (m : Meeting x'.side y'.side s' t' standings)
    (meets : (p : ClientPast C M) (q : ManagerPast C M) → ClientStandsFor x'.side p → ManagerStandsFor y'.side q → SidesMeet s' t' p q)
    (u : Turn) (which : u.accepted ≡ true → (there.accepted ≡ true) ⊎ (back.accepted ≡ true)) where
  -- if both rest, no channel offers more beats, and nothing is under way
  both-rest : ClientRests x.side x'.side there.offers → ManagerRests y.side y'.side back.offers →
      AreStopped (of_both there.offers back.offers) ×
      (all_standing standings ≡ 0)
  both-rest f g =
      let a = channel-rests x.side.a x'.side.a s'.a y.side.a y'.side.a t'.a there.offers.a standings.a h.ring_a h.free_a f.a g.a m.a m.in_a in
      let b = channel-rests y.side.b y'.side.b t'.b x.side.b x'.side.b s'.b back.offers.b standings.b h.ring_b h.free_b g.b f.b m.b m.in_b in
      let c = channel-rests x.side.c x'.side.c s'.c y.side.c y'.side.c t'.c there.offers.c standings.c h.ring_c h.free_c f.c g.c m.c m.in_c in
      let d = channel-rests y.side.d y'.side.d t'.d x.side.d x'.side.d s'.d back.offers.d standings.d h.ring_d h.free_d g.d f.d m.d m.in_d in
      let e = channel-rests x.side.e x'.side.e s'.e y.side.e y'.side.e t'.e there.offers.e standings.e h.ring_e h.free_e f.e g.e m.e m.in_e in
      ((a.0, b.0, c.0, d.0, e.0), none a.1 b.1 c.1 d.1 e.1)
    where
      none : {a b c d e : ℕ} → a ≡ 0 → b ≡ 0 → c ≡ 0 → d ≡ 0 → e ≡ 0 → a + b + c + d + e ≡ 0
      none f g h i j = omega arith

  -- the round of these turns, with these results and these outcomes of the next beats
  abbrev Played : PerChannel ℕ → PerChannel Offered → Type 0
  Played at offers = HasPlayed near n x.side y.side (record u { at = at; offers = offers }) standings (beats_of (taken_of x' y')) s' t'

  played : Played (of_both there.at back.at) (of_both there.offers back.offers)
  played =
      let far = beats_of (taken_of x y) in
      let far' = beats_of (taken_of x' y') in
      let from : RoundOf C = record { a = n.a; d = n.d; history = h.client.history } in
      let from' : RoundOf M = record { a = n.a; d = n.d; history = h.manager.history } in
      let begins = client-begins near n far x.side y.side h cw mw in
      let begins' = manager-begins near n far x.side y.side h cw mw in
      let due = client-due near n far x.side y.side h cw mw in
      let due' = manager-due near n far x.side y.side h cw mw in
      let k = (client.is_at from none_ready begins due).1 in
      let l = (manager.is_at from' none_ready begins' due').1 in
      let n' : PerChannel ℕ = of_both there.at back.at in
      let past = past_of s' t' k.past l.past in
      let met = meets k.past l.past k.stands l.stands in
      let same = same-progress x'.side y'.side s' t' standings m n' in
      record {
        met = record {
          client = k.past;
          manager = l.past;
          sides = still-sides x'.side y'.side s' t' standings m;
          meet = met;
          ring_a = m.a.ring;
          ring_b = m.b.ring;
          ring_c = m.c.ring;
          ring_d = m.d.ring;
          ring_e = m.e.ring;
          free_a = some-free rules_a x'.side.a s'.a y'.side.a t'.a k.past.a k.stands.a m.a;
          free_b = some-free rules_b y'.side.b t'.b x'.side.b s'.b l.past.b l.stands.b m.b;
          free_c = some-free rules_c x'.side.c s'.c y'.side.c t'.c k.past.c k.stands.c m.c;
          free_d = some-free rules_d y'.side.d t'.d x'.side.d s'.d l.past.d l.stands.d m.d;
          free_e = some-free rules_e x'.side.e s'.e y'.side.e t'.e k.past.e k.stands.e m.e;
          is_at = record {
            run = round n.a n.d there.at.a back.at.d h.client.history k.past.history h.manager.history l.past.history h.is_at.run k.moves l.moves;
            a_sent = sent-passed rules_a near.a there.at.a k.past.a.taken k.past.a past.a k.a_sent refl refl refl far'.a l.a_taken;
            b_sent = sent-passed rules_b near.b back.at.b l.past.b.taken l.past.b past.b l.b_sent refl refl refl far'.b k.b_taken;
            c_sent = sent-passed rules_c near.c there.at.c k.past.c.taken k.past.c past.c k.c_sent refl refl refl far'.c l.c_taken;
            d_sent = sent-passed rules_d near.d back.at.d l.past.d.taken l.past.d past.d l.d_sent refl refl refl far'.d k.d_taken;
            e_sent = sent-passed rules_e near.e there.at.e k.past.e.taken k.past.e past.e k.e_sent refl refl refl far'.e l.e_taken;
            a_homed = k.a_homed;
            b_homed = l.b_homed;
            c_homed = k.c_homed;
            e_homed = k.e_homed;
          };
        };
        stops = record { stop_a = k.stop_a; stop_b = l.stop_b; stop_c = k.stop_c; stop_d = l.stop_d; stop_e = k.stop_e };
        keeps = keeps-on _ _ _ _ _ client.keeps manager.keeps same;
        goes = ⊎_elim (λ e. inl (goes-left _ _ _ _ _ (client.goes e) manager.keeps same))
            (λ f. ⊎_elim (λ e. inl (goes-right _ _ _ _ _ client.keeps (manager.goes e) same))
            (λ g. let rest = both-rest f.1 g.1 in inr (λ e. ⊎_elim (λ a. f.0 a) (λ a. g.0 a) (which e), rest.0, rest.1))
            (manager.rests from' none_ready begins' due'))
            (client.rests from none_ready begins due);
        standing = same-sums (met-standing rules_a s'.a t'.a k.past.a (asked l.past.history) met.a standings.a m.in_a)
            (met-standing rules_b t'.b s'.b l.past.b k.past.b met.b standings.b m.in_b)
            (met-standing rules_c s'.c t'.c k.past.c l.past.c met.c standings.c m.in_c)
            (met-standing rules_d t'.d s'.d l.past.d (answered k.past.history) met.d standings.d m.in_d)
            (met-standing rules_e s'.e t'.e k.past.e l.past.e met.e standings.e m.in_e);
      }
    where
      keeps-on : (p q p' q' whole : ℕ) → p ≤ p' → q ≤ q' → whole ≡ p' + q' → p + q ≤ whole
      keeps-on p q p' q' whole f g e = omega arith

      goes-left : (p q p' q' whole : ℕ) → p + 1 ≤ p' → q ≤ q' → whole ≡ p' + q' → p + q + 1 ≤ whole
      goes-left p q p' q' whole f g e = omega arith

      goes-right : (p q p' q' whole : ℕ) → p ≤ p' → q + 1 ≤ q' → whole ≡ p' + q' → p + q + 1 ≤ whole
      goes-right p q p' q' whole f g e = omega arith

  pub both-played : u.at ≡ of_both there.at back.at → u.offers ≡ of_both there.offers back.offers → Played u.at u.offers
  both-played at offers = subst (λ p. Played p u.offers) (sym at) (subst (λ o. Played (of_both there.at back.at) o) (sym offers) played)
