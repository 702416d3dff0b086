-- The progress of a run, from what its loop sees, and its end.
use Rattle.tl_run.proofs.Names.{◌≡◌, ◌+◌, ◌*◌, ◌^◌, ◌≤◌, ◌<◌, ◌++◌, ℕ, false, List, [], length, take, drop, refl, sym, ap, subst, ◌∙◌, arith, ⊎_elim}
use Rattle.tl_run.proofs.Names.{length-take-le, IsWidth, Rules, rules_a, rules_b, rules_c, rules_d, rules_e, BeatOf, due, accepted_of, accepted_after}
use Rattle.tl_run.proofs.Names.{World, empty, Pipe, Beats, Bridge, Past, StandsFor, IsStanding, nothing_yet, no_beats, IsShort, IsSent}
use Rattle.tl_run.proofs.Names.{AreStopped, IsNew, IsUnderWay, progress, under_way, counted, all_progress, all_under_way, standing_count}
use Rattle.tl_run.proofs.Names.{all_standing, all_stopped, CanAdd, HaveRoomToCount, inboxes, lengths, IsAt, AllStop, HasRound}
use Rattle.tl_run.proofs.Names.{HasEnded, Offered, Stop, PerChannel}
use Rattle.tl_ring.specs.Pipe as piping
use Rattle.tl_ring.specs.declared.standing.Standing.{Standing}
use Rattle.tl_settle.specs.Rounds as rounds
use Rattle.tl_run.proofs.ChannelEnd.{all_stand, progress-most}
use Rattle.tl_run.proofs.Counting.{same-sums}
use Rattle.tl_run.proofs.DueBounds.{first-most, most-a, most-b, most-c, most-d, most-e, small-a, small-b, small-c, small-d, small-e}

-- ---- the progress of a run

-- the progress of a channel, after n accepted and `taken` taken beats
abbrev pub progress_in : {H : Type 0} {v : ℕ} → ℕ → ℕ → Pipe H v → ℕ
progress_in n taken p = n + (taken + length p.inbox + length p.ring) + (taken + length p.inbox)

-- the progress of all five, from the number of beats taken, or from the beats
abbrev pub progress_by : {C M : ℕ} → (n taken : PerChannel ℕ) → Bridge C M → ℕ
progress_by n taken s = progress_in n.a taken.a s.a + progress_in n.b taken.b s.b + progress_in n.c taken.c s.c +
    progress_in n.d taken.d s.d + progress_in n.e taken.e s.e

abbrev pub progress_here : {C M : ℕ} → PerChannel ℕ → Beats M C → Bridge C M → ℕ
progress_here n far s = progress_by n (lengths far) s

-- the largest progress of a channel
abbrev pub progress_end : {H : Type 0} (r : Rules H) {w : ℕ} (v : ℕ) → List (BeatOf H w) → ℕ
progress_end r {w = w} v bs = length bs + 2 * length (due r w v (accepted_of r bs) [])

-- it is the progress of its crossing
progress-in-is : {H : Type 0} (r : Rules H) {w v : ℕ} (bs : List (BeatOf H w)) (n : ℕ) (far : List (BeatOf H v)) (p : Pipe H v) (x : World H w v) →
    piping.StandsFor r p x → IsSent r bs n far x → progress_in n (length far) p ≡ progress n x
progress-in-is r bs n far p x s i = rw (i.taken, s.inbox, s.ring) refl

-- five numbers that are bounded
pub sums-most : {a b c d e a' b' c' d' e' : ℕ} → a ≤ a' → b ≤ b' → c ≤ c' → d ≤ d' → e ≤ e' → a + b + c + d + e ≤ a' + b' + c' + d' + e'
sums-most f g h i j = omega arith

-- the beats taken and those in an inbox are few, if few beats were accepted
few-stand : {H : Type 0} (r : Rules H) {w v : ℕ} → IsWidth w → IsWidth v →
    (bs : List (BeatOf H w)) (n : ℕ) (far : List (BeatOf H v)) (p : Pipe H v) (x : World H w v) →
    piping.StandsFor r p x → IsSent r bs n far x →
    ((rest : List (BeatOf H w)) → accepted_of r bs ≡ x.accepted ++ rest → length x.accepted ≤ n →
    length (due r w v x.accepted x.homes) ≤ 4096 * (n + 1)) →
    n < 2 ^ 41 → length far + length p.inbox < 2 ^ 60
few-stand r ww vw bs n far p x f s most few =
    let stand = all_stand r ww vw bs n far x f.crosses in
    let some : length x.accepted ≡ n = ap length s.accepted ∙ length-take-le n bs s.most in
    let rest = accepted_after r (take n bs) (drop n bs) in
    let due_few = most rest (s.lawful ∙ ap (λ q. q ++ rest) (sym s.accepted)) (omega (arith, some)) in
    let taken : length far ≡ length x.taken = ap length s.taken in
    let inbox : length p.inbox ≡ length x.inbox = ap length f.inbox in
    omega (arith, stand, due_few, taken, inbox, few)

-- the number of beats in a pipe is the number under way
standing-is : {H : Type 0} (r : Rules H) {w v : ℕ} (p : Pipe H v) (x : World H w v) (s : Standing) → piping.StandsFor r p x → IsStanding p s →
    standing_count s ≡ under_way x
standing-is r p x s f i = rw (i.staged, i.in_ring, i.inbox, f.stage, f.ring, f.inbox) refl

-- and so in all five
pub all-standing-is : {C M : ℕ} (s : Bridge C M) (x : Past C M) (t : PerChannel Standing) → StandsFor s x → IsStanding s.a t.a → IsStanding s.b t.b →
    IsStanding s.c t.c → IsStanding s.d t.d → IsStanding s.e t.e → all_standing t ≡ all_under_way x
all-standing-is s x t f a b c d e =
    same-sums (standing-is rules_a s.a x.a t.a f.a a) (standing-is rules_b s.b x.b t.b f.b b) (standing-is rules_c s.c x.c t.c f.c c)
    (standing-is rules_d s.d x.d t.d f.d d) (standing-is rules_e s.e x.e t.e f.e e)

module _ {C M : ℕ} (near : Beats C M) where
  -- the largest progress of a run
  abbrev pub run_end : ℕ
  run_end = progress_end rules_a M near.a + progress_end rules_b C near.b + progress_end rules_c M near.c +
      progress_end rules_d C near.d + progress_end rules_e M near.e

  -- it is the progress in the past
  pub progress-is : (n : PerChannel ℕ) (far : Beats M C) (s : Bridge C M) (x : Past C M) → StandsFor s x → IsAt near n far x →
      progress_here n far s ≡ all_progress n x
  progress-is n far s x f i =
      same-sums (progress-in-is rules_a near.a n.a far.a s.a x.a f.a i.a_sent) (progress-in-is rules_b near.b n.b far.b s.b x.b f.b i.b_sent)
      (progress-in-is rules_c near.c n.c far.c s.c x.c f.c i.c_sent) (progress-in-is rules_d near.d n.d far.d s.d x.d f.d i.d_sent)
      (progress-in-is rules_e near.e n.e far.e s.e x.e f.e i.e_sent)

  -- it is no larger than that
  pub progress-ends : IsWidth C → IsWidth M → (n : PerChannel ℕ) (far : Beats M C) (s : Bridge C M) (x : Past C M) →
      StandsFor s x → IsAt near n far x →
      progress_here n far s ≤ run_end
  progress-ends cw mw n far s x f i =
      subst (λ k. k ≤ run_end) (sym (progress-is n far s x f i))
      (sums-most (progress-most rules_a cw mw near.a n.a far.a x.a i.a_sent f.a.crosses)
      (progress-most rules_b mw cw near.b n.b far.b x.b i.b_sent f.b.crosses)
      (progress-most rules_c cw mw near.c n.c far.c x.c i.c_sent f.c.crosses) (progress-most rules_d mw cw near.d n.d far.d x.d i.d_sent f.d.crosses)
      (progress-most rules_e cw mw near.e n.e far.e x.e i.e_sent f.e.crosses))

  -- which is few
  pub end-few : IsWidth C → IsWidth M → IsShort near → run_end < 2 ^ 60
  end-few cw mw s =
      bounded _ _ _ _ _ _ _ _ _ _ s.few_a s.few_b s.few_c s.few_d s.few_e (most-a M mw [] near.a) (most-b C cw [] near.b) (most-c M mw [] near.c)
      (most-d C cw [] near.d) (most-e M mw [] near.e)
    where
      bounded : (f g h i j k l m n o : ℕ) → f ≤ 2 ^ 40 → g ≤ 2 ^ 40 → h ≤ 2 ^ 40 → i ≤ 2 ^ 40 → j ≤ 2 ^ 40 →
          k ≤ 4096 * (f + 1) → l ≤ 4096 * (g + 1) → m ≤ 4096 * (h + 1) → n ≤ 4096 * (i + 1) → o ≤ 4096 * (j + 1) →
          (f + 2 * k) + (g + 2 * l) + (h + 2 * m) + (i + 2 * n) + (j + 2 * o) < 2 ^ 60
      bounded f g h i j k l m n o p q r t u x y z w v = omega arith

  -- the beats in the inboxes can be counted
  pub can-add : IsWidth C → IsWidth M → (n : PerChannel ℕ) (far : Beats M C) (s : Bridge C M) (x : Past C M) → StandsFor s x →
      IsAt near n far x → HaveRoomToCount n →
      CanAdd (lengths far) (lengths (inboxes s))
  can-add cw mw n far s x f i few = record {
    a = few-stand rules_a cw mw near.a n.a far.a s.a x.a f.a i.a_sent
        (λ rest e l. first-most rules_a C M mw small-a x.a.homes near.a x.a.accepted rest n.a e l) few.a;
    b = few-stand rules_b mw cw near.b n.b far.b s.b x.b f.b i.b_sent
        (λ rest e l. first-most rules_b M C cw small-b x.b.homes near.b x.b.accepted rest n.b e l) few.b;
    c = few-stand rules_c cw mw near.c n.c far.c s.c x.c f.c i.c_sent
        (λ rest e l. first-most rules_c C M mw small-c x.c.homes near.c x.c.accepted rest n.c e l) few.c;
    d = few-stand rules_d mw cw near.d n.d far.d s.d x.d f.d i.d_sent
        (λ rest e l. first-most rules_d M C cw small-d x.d.homes near.d x.d.accepted rest n.d e l) few.d;
    e = few-stand rules_e cw mw near.e n.e far.e s.e x.e f.e i.e_sent
        (λ rest e l. first-most rules_e C M mw small-e x.e.homes near.e x.e.accepted rest n.e e l) few.e;
  }

  -- ---- a round

  module _ (n : PerChannel ℕ) (far far' : Beats M C) (s t : Bridge C M) (x : Past C M) (o : PerChannel Offered)
      (f : StandsFor s x) (i : IsAt near n far x)
      (h : HasRound near n far' x t o) where
    -- a round that is not the last one
    pub further : (AreStopped o → all_under_way h.past ≡ 0 → ⊥) → progress_here n far s + 1 ≤ progress_here (counted n o) far' t
    further goes =
        let before : progress_here n far s ≡ all_progress n x = progress-is n far s x f i in
        let after : progress_here (counted n o) far' t ≡ all_progress (counted n o) h.past =
        progress-is (counted n o) far' t h.past h.stands h.is_at in
        let most : all_progress n x + 1 ≤ all_progress (counted n o) h.past = ⊎_elim (λ l. l) (λ z. absurd (goes z.0 z.1)) h.goes in
        subst (λ k. k + 1 ≤ progress_here (counted n o) far' t) (sym before) (subst (λ k. all_progress n x + 1 ≤ k) (sym after) most)

    -- the last one
    pub ended : (rounds : ℕ) → rounds ≤ progress_here n far s → (stops : PerChannel Stop) → o ≡ all_stopped stops → all_under_way h.past ≡ 0 →
        HasEnded near (counted n o) far' t stops (rounds + 1)
    ended rounds few stops same rest =
        let before : progress_here n far s ≡ all_progress n x = progress-is n far s x f i in
        record {
          past = h.past;
          stands = h.stands;
          is_at = h.is_at;
          all_stop = subst (λ q. AllStop near (counted n o) h.past q) same h.stops;
          at_rest = rest;
          few_rounds = counts (subst (λ k. rounds ≤ k) before few) h.keeps;
        }
      where
        counts : {k l m : ℕ} → k ≤ l → l ≤ m → k + 1 ≤ m + 1
        counts g l = omega arith

  -- ---- the first round

  -- if nothing has happened yet, whatever is in the rings
  abbrev pub untouched : (room : ℕ) → Past C M → Past C M
  untouched room x = record {
    client = [];
    manager = [];
    a = record x.a { room = room; accepted = []; homes = []; taken = []; closed = false };
    b = record x.b { room = room; accepted = []; homes = []; taken = []; closed = false };
    c = record x.c { room = room; accepted = []; homes = []; taken = []; closed = false };
    d = record x.d { room = room; accepted = []; homes = []; taken = []; closed = false };
    e = record x.e { room = room; accepted = []; homes = []; taken = []; closed = false };
  }

  -- a run is at its beginning
  pub begins : (n : PerChannel ℕ) (far : Beats M C) (room : ℕ) (x : Past C M) →
      n ≡ record { a = 0; b = 0; c = 0; d = 0; e = 0 } → far ≡ no_beats → 1 ≤ room →
      IsAt near n far (untouched room x)
  begins n far room x none empty l =
      let here : IsAt near (record { a = 0; b = 0; c = 0; d = 0; e = 0 }) no_beats (untouched room x) = record {
        run = rounds.begins;
        a_sent = record { accepted = refl; most = omega arith; lawful = refl; taken = refl; shuts = λ k. search k; room = l };
        b_sent = record { accepted = refl; most = omega arith; lawful = refl; taken = refl; shuts = λ k. search k; room = l };
        c_sent = record { accepted = refl; most = omega arith; lawful = refl; taken = refl; shuts = λ k. search k; room = l };
        d_sent = record { accepted = refl; most = omega arith; lawful = refl; taken = refl; shuts = λ k. search k; room = l };
        e_sent = record { accepted = refl; most = omega arith; lawful = refl; taken = refl; shuts = λ k. search k; room = l };
        a_homed = refl;
        b_homed = refl;
        c_homed = refl;
        e_homed = refl;
      } in
      subst (λ k. IsAt near k far (untouched room x)) (sym none)
      (subst (λ k. IsAt near (record { a = 0; b = 0; c = 0; d = 0; e = 0 }) k (untouched room x)) (sym empty) here)

  -- it is under way at a new bridge
  pub starts : (n : PerChannel ℕ) (far : Beats M C) (s : Bridge C M) → n ≡ record { a = 0; b = 0; c = 0; d = 0; e = 0 } → far ≡ no_beats → IsNew s →
      IsUnderWay near n far s
  starts n far s none empty (room, some, f) =
      record { past = nothing_yet room; stands = f; is_at = begins n far room (nothing_yet room) none empty some }
