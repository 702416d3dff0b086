-- A run in one thread of a script that is read incrementally: the beats that move on are taken in the end, and if no
-- channel advances, the run has ended.
use Rattle.tl_run.proofs.Names.{◌≡◌, ◌≢◌, ◌+◌, ◌-◌, ◌*◌, ◌++◌, ◌≤◌, ◌⊎◌, inl, inr, ◌↔◌, ℕ, Option, None, Some, Result, Ok, Err, List, [], length}
use Rattle.tl_run.proofs.Names.{take, drop, min, refl, sym, ap, subst, ◌∙◌, arith, zero-le, length-append, IsOk, OnOk, OnErr, length-take-le}
use Rattle.tl_run.proofs.Names.{nil_from_length, IsWidth, Rules, rules_a, rules_b, rules_c, rules_d, rules_e, BeatOf, SideFault, rest_of, World}
use Rattle.tl_run.proofs.Names.{pushed, popped, Pipe, client_answer, manager_answer, Beats, PerChannel, Bridge, Past, StandsFor, IsStanding}
use Rattle.tl_run.proofs.Names.{fetch_count, pump_count, after_fetch, after_pump, stops_alone, joined, AreBetween, none_counted, as_counts}
use Rattle.tl_run.proofs.Names.{HasShortLists, AreOn, AreStopsOf, HasStopped, IsStopOf, RestsIn, all_counts, all_ways, stop_by, way_in}
use Rattle.tl_run.proofs.Names.{HaveRoomToCount, HasEnded, IsAt, IsSent, Stops, after_take_all, all_standing, all_under_way, arriving, emptied}
use Rattle.tl_run.proofs.Names.{standing_count, under_way, Stop, Stopped}
use Rattle.std.proofs.Math.Nat.{min-le_left}
use Rattle.tl_ring.specs.Pipe as piping
use Rattle.tl_ring.specs.declared.fault.EndFault.{EndFault}
use Rattle.tl_ring.specs.declared.queue.TheConstants.{STAGE_CAPACITY}
use Rattle.tl_ring.specs.declared.standing.Standing.{Standing}
use Rattle.tl_trace.specs.declared.script.Script.{Script}
use Rattle.tl_trace.specs.declared.script.Counts.{Counts}
use Rattle.tl_run.proofs.ChannelOffer.{sent-passed}
use Rattle.tl_run.proofs.ChannelRound.{none-or-some, size-behind, stage-full}
use Rattle.tl_run.proofs.Counting.{few-enough, same-sums}
use Rattle.tl_run.proofs.Ended.{sums-most}
use Rattle.tl_run.proofs.EndsIn.{each-zero}
use Rattle.tl_run.proofs.RunRound.{takes-round}

-- ---- the beginning of a run

pub new-within : {C M : ℕ} (held : Script C M) → HasShortLists held → AreBetween none_counted none_counted held
new-within held short = record {
  a = record { from = zero-le; to = zero-le; few = omega (arith, short.few_a) };
  b = record { from = zero-le; to = zero-le; few = omega (arith, short.few_b) };
  c = record { from = zero-le; to = zero-le; few = omega (arith, short.few_c) };
  d = record { from = zero-le; to = zero-le; few = omega (arith, short.few_d) };
  e = record { from = zero-le; to = zero-le; few = omega (arith, short.few_e) };
}

-- ---- counting the accepted beats

-- the number of beats of all channels that were discarded or are held
abbrev pub all_ends : {C M : ℕ} → Counts → Script C M → ℕ
all_ends discarded held =
    (discarded.a + length held.a.items) + (discarded.b + length held.b.items) + (discarded.c + length held.c.items) + (discarded.d + length held.d.items) +
    (discarded.e + length held.e.items)

module _ {C M : ℕ} (discarded : Counts) (n : PerChannel ℕ) (held : Script C M) (w : AreBetween discarded (as_counts n) held) where
  pub room-to-count : HaveRoomToCount n
  room-to-count = record {
    a = few-enough w.a.to w.a.few;
    b = few-enough w.b.to w.b.few;
    c = few-enough w.c.to w.c.few;
    d = few-enough w.d.to w.d.few;
    e = few-enough w.e.to w.e.few;
  }

  pub all-within : all_counts n ≤ all_ends discarded held
  all-within = sums-most w.a.to w.b.to w.c.to w.d.to w.e.to

module _ (n m : PerChannel ℕ) (on : AreOn n m) where
  -- a channel has advanced, if the counts differ
  pub all-on : {before after : ℕ} → before ≡ all_counts n → after ≡ all_counts m → (after ≢ before) → all_counts n + 1 ≤ all_counts m
  all-on was is other = more n.a m.a n.b m.b n.c m.c n.d m.d n.e m.e on.a on.b on.c on.d on.e (λ e. other (is ∙ e ∙ sym was))
    where
      more : (a a' b b' c c' d d' e e' : ℕ) → a ≤ a' → b ≤ b' → c ≤ c' → d ≤ d' → e ≤ e' → (a' + b' + c' + d' + e' ≡ a + b + c + d + e → ⊥) →
          a + b + c + d + e + 1 ≤ a' + b' + c' + d' + e'
      more a a' b b' c c' d d' e e' f g h i j other = grind (arith, f, g, h, i, j, other)

  -- and none has, if they are the same
  pub all-same : all_counts m ≡ all_counts n → m ≡ n
  all-same same =
      let e = each m.a n.a m.b n.b m.c n.c m.d n.d m.e n.e on.a on.b on.c on.d on.e same in
      rw (e.0, e.1, e.2, e.3, e.4) refl
    where
      each : (a a' b b' c c' d d' e e' : ℕ) → a' ≤ a → b' ≤ b → c' ≤ c → d' ≤ d → e' ≤ e → a + b + c + d + e ≡ a' + b' + c' + d' + e' →
          (a ≡ a') × (b ≡ b') × (c ≡ c') × (d ≡ d') × (e ≡ e')
      each a a' b b' c c' d d' e e' f g h i j s = (omega arith, omega arith, omega arith, omega arith, omega arith)

-- ---- the beats under way move on

-- the way of what is under way in a channel: beats go from the ring to the inbox, all of that is taken, and beats go from the stage into the ring
ways : (stage ring inbox room out left into staged after : ℕ) → 1 ≤ room → out ≡ min ring (STAGE_CAPACITY - inbox) → left + out ≡ ring →
    into ≡ min stage (room - left) → staged + into ≡ stage →
    after ≡ left + into →
    (3 * staged + 2 * after + 0 ≤ 3 * stage + 2 * ring + inbox) ×
    (1 ≤ 3 * stage + 2 * ring + inbox → 3 * staged + 2 * after + 0 + 1 ≤ 3 * stage + 2 * ring + inbox)
ways stage ring inbox room out left into staged after some a b c d e = (omega arith, λ l. omega arith)

-- a number is at most the one before, and less unless that was 0
abbrev Nearer : ℕ → ℕ → Type 0
Nearer after before = (after ≤ before) × (1 ≤ before → after + 1 ≤ before)

nearer-in : {H : Type 0} (r : Rules H) {w v : ℕ} (p q s t : Pipe H v) (x : World H w v) → piping.StandsFor r p x →
    piping.StandsFor r q (popped (fetch_count p) x) →
    piping.StandsFor r s (emptied (popped (fetch_count p) x)) →
    piping.StandsFor r t (pushed (pump_count s) (emptied (popped (fetch_count p) x))) → Nearer (way_in t) (way_in p)
nearer-in r p q s t x f g h i =
    let out = fetch_count p in
    let into = pump_count s in
    let out_is : out ≡ min (length x.ring) (STAGE_CAPACITY - length x.inbox) = rw (f.ring, f.inbox) refl in
    let left : length (drop out x.ring) + out ≡ length x.ring =
    size-behind out x.ring (omega (arith, out_is, min-le_left (length x.ring) (STAGE_CAPACITY - length x.inbox))) in
    let into_is : into ≡ min (length x.stage) (x.room - length (drop out x.ring)) = rw (h.stage, h.room, h.ring) refl in
    let fits : into ≤ length x.stage = omega (arith, into_is, min-le_left (length x.stage) (x.room - length (drop out x.ring))) in
    let staged : length (drop into x.stage) + into ≡ length x.stage = size-behind into x.stage fits in
    let after : length (drop out x.ring ++ take into x.stage) ≡ length (drop out x.ring) + into =
    length-append (drop out x.ring) (take into x.stage) ∙ ap (λ n. length (drop out x.ring) + n) (length-take-le into x.stage fits) in
    let here : way_in p ≡ 3 * length x.stage + 2 * length x.ring + length x.inbox = rw (f.stage, f.ring, f.inbox) refl in
    let there : way_in t ≡ 3 * length (drop into x.stage) + 2 * length (drop out x.ring ++ take into x.stage) + 0 =
    rw (i.stage, i.ring, i.inbox) refl in
    subst (λ k. Nearer k (way_in p)) (sym there)
    (subst (λ k. Nearer (3 * length (drop into x.stage) + 2 * length (drop out x.ring ++ take into x.stage) + 0) k) (sym here)
    (ways (length x.stage) (length x.ring) (length x.inbox) x.room out (length (drop out x.ring)) into (length (drop into x.stage))
    (length (drop out x.ring ++ take into x.stage))
    f.some_room out_is left into_is staged after))

both-nearer : {a b c d : ℕ} → Nearer a b → Nearer c d → Nearer (a + c) (b + d)
both-nearer {a} {b} {c} {d} (l, f) (m, g) = (omega (arith, l, m), some (none-or-some b) (none-or-some d))
  where
    some : (b ≡ 0) ⊎ (1 ≤ b) → (d ≡ 0) ⊎ (1 ≤ d) → 1 ≤ b + d → a + c + 1 ≤ b + d
    some (inr k) e s = let h = f k in omega (arith, h, m)
    some (inl z) (inr k) s = let h = g k in omega (arith, h, l)
    some (inl z) (inl y) s = absurd (omega (arith, z, y, s))

module _ {C M : ℕ} where
  -- all channels
  pub all-nearer : (s t u v : Bridge C M) (x : Past C M) → StandsFor s x → StandsFor t (after_fetch s x) →
      StandsFor u (after_take_all (after_fetch s x)) →
      StandsFor v (after_pump u (after_take_all (after_fetch s x))) → 1 ≤ all_ways s → all_ways v + 1 ≤ all_ways s
  all-nearer s t u v x f g h i =
      (both-nearer (both-nearer (both-nearer
      (both-nearer (nearer-in rules_a s.a t.a u.a v.a x.a f.a g.a h.a i.a) (nearer-in rules_b s.b t.b u.b v.b x.b f.b g.b h.b i.b))
      (nearer-in rules_c s.c t.c u.c v.c x.c f.c g.c h.c i.c)) (nearer-in rules_d s.d t.d u.d v.d x.d f.d g.d h.d i.d))
      (nearer-in rules_e s.e t.e u.e v.e x.e f.e g.e h.e i.e)).1

  -- if a bridge has beats in it, they have some distance to go
  pub some-way : (s : Bridge C M) (t : PerChannel Standing) → IsStanding s.a t.a → IsStanding s.b t.b → IsStanding s.c t.c →
      IsStanding s.d t.d → IsStanding s.e t.e →
      all_standing t ≢ 0 → 1 ≤ all_ways s
  some-way s t a b c d e some = through some (sums-most (most s.a t.a a) (most s.b t.b b) (most s.c t.c c) (most s.d t.d d) (most s.e t.e e))
    where
      most : {H : Type 0} {v : ℕ} (p : Pipe H v) (k : Standing) → IsStanding p k → standing_count k ≤ way_in p
      most p k i = omega (arith, i.staged, i.in_ring, i.inbox)

      through : {k l : ℕ} → k ≢ 0 → k ≤ l → 1 ≤ l
      through some l = omega (arith, some, l)

  module _ (near : Beats C M) (n : PerChannel ℕ) (far : Beats M C) where
    -- the state of a run after its rings' beats moved on to the inboxes
    pub fetched-at : (s : Bridge C M) (x : Past C M) → IsAt near n far x → IsAt near n far (after_fetch s x)
    fetched-at s x i = record {
      run = i.run;
      a_sent = sent-passed rules_a near.a n.a far.a x.a (popped (fetch_count s.a) x.a) i.a_sent refl refl refl far.a i.a_sent.taken;
      b_sent = sent-passed rules_b near.b n.b far.b x.b (popped (fetch_count s.b) x.b) i.b_sent refl refl refl far.b i.b_sent.taken;
      c_sent = sent-passed rules_c near.c n.c far.c x.c (popped (fetch_count s.c) x.c) i.c_sent refl refl refl far.c i.c_sent.taken;
      d_sent = sent-passed rules_d near.d n.d far.d x.d (popped (fetch_count s.d) x.d) i.d_sent refl refl refl far.d i.d_sent.taken;
      e_sent = sent-passed rules_e near.e n.e far.e x.e (popped (fetch_count s.e) x.e) i.e_sent refl refl refl far.e i.e_sent.taken;
      a_homed = i.a_homed;
      b_homed = i.b_homed;
      c_homed = i.c_homed;
      e_homed = i.e_homed;
    }

    -- and after both sides took the beats of the inboxes, and staged beats moved into the rings
    pub taken-at : IsWidth C → IsWidth M → (s t : Bridge C M) (x : Past C M) → StandsFor s x → IsAt near n far x →
        IsAt near n (joined far (arriving x)) (after_pump t (after_take_all x))
    taken-at cw mw s t x stands i = record {
      run = takes-round cw mw near.a near.d n.a n.d s x stands i.run i.a_homed;
      a_sent = sent-passed rules_a near.a n.a far.a x.a (pushed (pump_count t.a) (emptied x.a)) i.a_sent refl refl refl (far.a ++ x.a.inbox)
          (ap (λ q. q ++ x.a.inbox) i.a_sent.taken);
      b_sent = sent-passed rules_b near.b n.b far.b x.b (pushed (pump_count t.b) (emptied x.b)) i.b_sent refl refl refl (far.b ++ x.b.inbox)
          (ap (λ q. q ++ x.b.inbox) i.b_sent.taken);
      c_sent = sent-passed rules_c near.c n.c far.c x.c (pushed (pump_count t.c) (emptied x.c)) i.c_sent refl refl refl (far.c ++ x.c.inbox)
          (ap (λ q. q ++ x.c.inbox) i.c_sent.taken);
      d_sent = sent-passed rules_d near.d n.d far.d x.d (pushed (pump_count t.d) (emptied x.d)) i.d_sent refl refl refl (far.d ++ x.d.inbox)
          (ap (λ q. q ++ x.d.inbox) i.d_sent.taken);
      e_sent = sent-passed rules_e near.e n.e far.e x.e (pushed (pump_count t.e) (emptied x.e)) i.e_sent refl refl refl (far.e ++ x.e.inbox)
          (ap (λ q. q ++ x.e.inbox) i.e_sent.taken);
      a_homed = i.a_homed;
      b_homed = i.b_homed;
      c_homed = i.c_homed;
      e_homed = i.e_homed;
    }

-- the beats under way in a crossing are those in its pipe
waits-in : {H : Type 0} (r : Rules H) {w v : ℕ} (p : Pipe H v) (x : World H w v) → piping.StandsFor r p x →
    length p.stage + length p.ring + length p.inbox ≡ under_way x
waits-in r p x f = rw (f.stage, f.ring, f.inbox) refl

-- so their number is the same in every past that a bridge represents
pub rests-too : {C M : ℕ} (s : Bridge C M) (x y : Past C M) → StandsFor s x → StandsFor s y → all_under_way x ≡ 0 → all_under_way y ≡ 0
rests-too s x y f g none =
    same-sums (sym (waits-in rules_a s.a y.a g.a) ∙ waits-in rules_a s.a x.a f.a) (sym (waits-in rules_b s.b y.b g.b) ∙ waits-in rules_b s.b x.b f.b)
    (sym (waits-in rules_c s.c y.c g.c) ∙ waits-in rules_c s.c x.c f.c) (sym (waits-in rules_d s.d y.d g.d) ∙ waits-in rules_d s.d x.d f.d)
    (sym (waits-in rules_e s.e y.e g.e) ∙ waits-in rules_e s.e x.e f.e) ∙ none

-- ---- the end

-- the reason why a channel offers no more beats, from the result of its close
pub stop-is : {X : Type 0} {rest other : List X} (o : Option SideFault) (closed : Result (Unit {0}) EndFault) → other ≡ rest →
    IsOk closed ↔ (other ≡ []) → {stop : Stop} → stop ≡ stop_by o closed →
    IsStopOf o rest stop
stop-is (Some fault) closed same f is = is
stop-is None (Ok u) same f is = inl (is, sym same ∙ f.0 refl)
stop-is None (Err e) same f is = inr (is, λ none. let ok = f.1 (same ∙ none) in cc (ok))

-- a close accepts no beat
abbrev pub HasKept : {C M : ℕ} (x y : Past C M) → Type 0
HasKept x y = (y.a.accepted ≡ x.a.accepted) × (y.b.accepted ≡ x.b.accepted) × (y.c.accepted ≡ x.c.accepted) × (y.d.accepted ≡ x.d.accepted) ×
    (y.e.accepted ≡ x.e.accepted)

-- the property after a close: with the past in which the channel is closed, or with the one before
pub on-closed : {C M : ℕ} {G : Type 0} (first : Past C M) (s t : Bridge C M) (x z : Past C M) → HasKept first x → HasKept first z →
    (r : Result (Unit {0}) EndFault) → OnOk r (StandsFor t z) → OnErr r (t ≡ s) → StandsFor s x →
    ((y : Past C M) → StandsFor t y → HasKept first y → G) → G
on-closed first s t x z kept closed (Ok u) done same stands goes = goes z done closed
on-closed first s t x z kept closed (Err e) done same stands goes = goes x (subst (λ q. StandsFor q x) (sym same) stands) kept

-- a channel that rests, and in which nothing is under way, offers no more
stops-from : {H : Type 0} (r : Rules H) {w v : ℕ} (bs : List (BeatOf H w)) (n : ℕ) (answer : BeatOf H w → Option SideFault) (far : List (BeatOf H v))
    (x : World H w v) → IsSent r bs n far x →
    under_way x ≡ 0 → (o : Option SideFault) → RestsIn bs n answer x o → (stop : Stop) → IsStopOf o (rest_of r w x.accepted) stop →
    Stops r bs n answer x.accepted (Stopped stop)
stops-from r bs n answer far x sent none (Some fault) rests stop is = subst (λ z. Stops r bs n answer x.accepted (Stopped z)) (sym is) rests
stops-from r bs n answer far x sent none None (inl past) stop (inl (is, whole)) =
    subst (λ z. Stops r bs n answer x.accepted (Stopped z)) (sym is) (past, whole)
stops-from r bs n answer far x sent none None (inl past) stop (inr (is, begun)) =
    subst (λ z. Stops r bs n answer x.accepted (Stopped z)) (sym is) (past, begun)
stops-from r bs n answer far x sent none None (inr (b, next, why)) stop is =
    absurd (stage-full r bs n answer (λ _. 0) far x sent b next why (nil_from_length x.stage (omega (arith, none))))

-- so a run in which each channel rests has ended
pub has-ended : {F : Type 0} {C M : ℕ} (Holds : F → Beats M C → Type 0) (near : Beats C M) (n taken : PerChannel ℕ) (far : F) (s : Bridge C M)
    (o : PerChannel (Option SideFault))
    (h : HasStopped Holds near n taken far s o) (stops : PerChannel Stop) → AreStopsOf h.past o stops → HasEnded near n h.all s stops 0
has-ended Holds near n taken far s o h stops are =
    let x = h.past in
    let none = each-zero (under_way x.a) (under_way x.b) (under_way x.c) (under_way x.d) (under_way x.e) h.at_rest in
    record {
      past = x;
      stands = h.stands;
      is_at = h.is_at;
      all_stop = record {
        stop_a = stops-from rules_a near.a n.a (client_answer x.client) h.all.a x.a h.is_at.a_sent none.0 o.a h.rests.a stops.a are.a;
        stop_b = stops-from rules_b near.b n.b (stops_alone rules_b x.b.accepted) h.all.b x.b h.is_at.b_sent none.1 o.b h.rests.b stops.b are.b;
        stop_c = stops-from rules_c near.c n.c (stops_alone rules_c x.c.accepted) h.all.c x.c h.is_at.c_sent none.2 o.c h.rests.c stops.c are.c;
        stop_d = stops-from rules_d near.d n.d (manager_answer x.manager) h.all.d x.d h.is_at.d_sent none.3 o.d h.rests.d stops.d are.d;
        stop_e = stops-from rules_e near.e n.e (stops_alone rules_e x.e.accepted) h.all.e x.e h.is_at.e_sent none.4 o.e h.rests.e stops.e are.e;
      };
      at_rest = h.at_rest;
      few_rounds = zero-le;
    }
