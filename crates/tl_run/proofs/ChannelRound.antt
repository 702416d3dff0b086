-- The effect of a round on one channel of a run.
use Rattle.tl_run.proofs.Names.{◌≡◌, ◌≢◌, ◌+◌, ◌-◌, ◌++◌, ◌≤◌, ◌<◌, ◌⊎◌, inl, inr, ℕ, zero, suc, true, Option, None, Some, List, [], length, take}
use Rattle.tl_run.proofs.Names.{drop, min, refl, sym, ap, subst, ◌∙◌, arith, ⊎_elim, length-append, slice_get, length-take-le, length-drop}
use Rattle.tl_run.proofs.Names.{nil_from_length, slice_get_within, Rules, BeatOf, SideFault, fault_after, World, offered, shut, inbox_room, Does}
use Rattle.tl_run.proofs.Names.{IsSent, IsStopped, steps, emptied, progress, under_way, Offered, Accepted, NotReady, Stopped, Done, Cut, Refused}
use Rattle.std.proofs.Math.Nat.{min-le_left}
use Rattle.tl_ring.specs.declared.queue.TheConstants.{STAGE_CAPACITY}
use Rattle.tl_run.proofs.ChannelOffer.{sent-offer, sent-passed}
use Rattle.tl_run.proofs.Counting.{none-more}
use Rattle.tl_offer.proofs.OfferSteps.{does-taken}
use Rattle.tl_run.proofs.Moving.{moved_in, moved, push_count, pop_count}

-- the number of items left of a list without its first k
pub size-behind : {X : Type 0} (k : ℕ) (xs : List X) → k ≤ length xs → length (drop k xs) + k ≡ length xs
size-behind k xs le = let n : length (drop k xs) ≡ length xs - k = length-drop k xs in omega arith

-- a number is zero, or it is not
pub none-or-some : (n : ℕ) → (n ≡ 0) ⊎ (1 ≤ n)
none-or-some zero = inl refl
none-or-some (suc n) = inr (omega arith)

-- ---- how far a ring moves on

-- if nothing can enter a ring or leave it, nothing is there
none-goes : (stage room ring inbox : ℕ) → 1 ≤ room → inbox ≡ 0 →
    min stage (room - ring) + min (ring + min stage (room - ring)) (STAGE_CAPACITY - inbox) ≡ 0 → stage + ring + inbox ≡ 0
none-goes stage room ring inbox some none e = omega arith

module _ {H : Type 0} {w v : ℕ} (z : World H w v) where
  -- the ring, when the beats went in
  ring-filled : length (moved_in z).ring ≡ length z.ring + push_count z
  ring-filled =
      length-append z.ring (take (push_count z) z.stage) ∙
      ap (λ n. length z.ring + n) (length-take-le (push_count z) z.stage (min-le_left (length z.stage) (z.room - length z.ring)))

  -- the ring after the beats came out
  ring-left : length (moved z).ring + pop_count (moved_in z) ≡ length (moved_in z).ring
  ring-left = size-behind (pop_count (moved_in z)) (moved_in z).ring (min-le_left (length (moved_in z).ring) (inbox_room - length z.inbox))

  -- the stage, when the beats went out of it
  stage-left : length (moved z).stage + push_count z ≡ length z.stage
  stage-left = size-behind (push_count z) z.stage (min-le_left (length z.stage) (z.room - length z.ring))

  -- the inbox after the beats entered it
  inbox-filled : length (moved z).inbox ≡ length z.inbox + pop_count (moved_in z)
  inbox-filled =
      length-append z.inbox (take (pop_count (moved_in z)) (moved_in z).ring) ∙
      ap (λ n. length z.inbox + n)
      (length-take-le (pop_count (moved_in z)) (moved_in z).ring (min-le_left (length (moved_in z).ring) (inbox_room - length z.inbox)))

  -- a channel advances by the beats that enter its ring and that come out of it
  pub progress-moved : (k : ℕ) → progress k (moved z) ≡ progress k z + (push_count z + pop_count (moved_in z))
  progress-moved k =
      by-sizes (length z.taken) (length (moved z).inbox) (length (moved z).ring) (length z.inbox) (length z.ring) (length (moved_in z).ring)
      (push_count z) (pop_count (moved_in z)) inbox-filled ring-left ring-filled
    where
      by-sizes : (taken inbox ring before held full i o : ℕ) → inbox ≡ before + o → ring + o ≡ full → full ≡ held + i →
          k + (taken + inbox + ring) + (taken + inbox) ≡ k + (taken + before + held) + (taken + before) + (i + o)
      by-sizes taken inbox ring before held full i o a b c = omega arith

  -- as many beats are under way as before
  under-way-moved : under_way (moved z) ≡ under_way z
  under-way-moved =
      by-sizes (length (moved z).stage) (length z.stage) (length (moved z).inbox) (length (moved z).ring) (length z.inbox) (length z.ring)
      (length (moved_in z).ring) (push_count z) (pop_count (moved_in z)) stage-left inbox-filled ring-left ring-filled
    where
      by-sizes : (stage staged inbox ring before held full i o : ℕ) → stage + i ≡ staged → inbox ≡ before + o → ring + o ≡ full → full ≡ held + i →
          stage + ring + inbox ≡ staged + held + before
      by-sizes stage staged inbox ring before held full i o s a b c = omega arith

  -- if nothing enters or comes out, nothing is under way
  at-rest : 1 ≤ z.room → length z.inbox ≡ 0 → push_count z + pop_count (moved_in z) ≡ 0 → under_way z ≡ 0
  at-rest some none e =
      none-goes (length z.stage) z.room (length z.ring) (length z.inbox) some none
      (ap (λ n. push_count z + min n (inbox_room - length z.inbox)) (sym ring-filled) ∙ e)

-- all beats of an inbox are taken: the progress of the channel is unchanged
progress-emptied : {H : Type 0} {w v : ℕ} (x : World H w v) (k : ℕ) → progress k (emptied x) ≡ progress k x
progress-emptied x k = by-sizes (length (x.taken ++ x.inbox)) (length x.taken) (length x.inbox) (length x.ring) (length-append x.taken x.inbox)
  where
    by-sizes : (all taken inbox ring : ℕ) → all ≡ taken + inbox → k + (all + 0 + ring) + (all + 0) ≡ k + (taken + inbox + ring) + (taken + inbox)
    by-sizes all taken inbox ring e = omega arith

module _ {H : Type 0} (r : Rules H) {w v : ℕ} (bs : List (BeatOf H w)) (n : ℕ) (answer : BeatOf H w → Option SideFault) (home : BeatOf H w → ℕ) where
  -- one more beat was accepted, or none, and all beats of the inbox were taken
  pub sent-round : (far : List (BeatOf H v)) (x : World H w v) (o : Offered) (accepted : List (BeatOf H w)) (y : World H w v) →
      IsSent r bs n far x → ((b : BeatOf H w) → answer b ≡ None → fault_after r x.accepted b ≡ None) →
      Does r bs n answer home (emptied x) o accepted y →
      IsSent r bs (n + steps o) (far ++ x.inbox) (moved y)
  sent-round far x o accepted y s own does =
      let before = sent-passed r bs n far x (emptied x) s refl refl refl (emptied x).taken refl in
      let after = sent-offer r bs n answer home (emptied x) o accepted y before own does in
      sent-passed r bs (n + steps o) y.taken y (moved y) after refl refl refl (far ++ x.inbox)
      (ap (λ t. t ++ x.inbox) s.taken ∙ sym (does-taken r bs n answer home (emptied x) y o accepted does))

  -- ---- the progress of the channel

  module _ (x z : World H w v) (as_far : progress n z ≡ progress n x) where
    -- no beat is accepted: the channel advances by the moves of its ring
    goes-on : progress (n + 0) (moved z) ≡ progress n x + (push_count z + pop_count (moved_in z))
    goes-on =
        ap (λ k. progress k (moved z)) (sym (none-more n)) ∙ progress-moved z n ∙ ap (λ k. k + (push_count z + pop_count (moved_in z))) as_far

    -- no beat is accepted, but beats enter or come out
    progress-on : 1 ≤ push_count z + pop_count (moved_in z) →
        (progress n x ≤ progress (n + 0) (moved z)) × (progress n x + 1 ≤ progress (n + 0) (moved z))
    progress-on some = by-sum (progress n x) (push_count z + pop_count (moved_in z)) (progress (n + 0) (moved z)) some goes-on
      where
        by-sum : (before more after : ℕ) → 1 ≤ more → after ≡ before + more → (before ≤ after) × (before + 1 ≤ after)
        by-sum before more after some e = (omega arith, omega arith)

    -- no beat is accepted: the channel has not discarded back
    progress-keeps : progress n x ≤ progress (n + 0) (moved z)
    progress-keeps = by-sum (progress n x) (push_count z + pop_count (moved_in z)) (progress (n + 0) (moved z)) goes-on
      where
        by-sum : (before more after : ℕ) → after ≡ before + more → before ≤ after
        by-sum before more after e = omega arith

    -- no beat is accepted, and the channel is stopped
    progress-stopped : 1 ≤ z.room → length z.inbox ≡ 0 →
        (progress n x ≤ progress (n + 0) (moved z)) × ((progress n x + 1 ≤ progress (n + 0) (moved z)) ⊎ (Unit {0} × (under_way (moved z) ≡ 0)))
    progress-stopped some none = ⊎_elim
        (λ (e : push_count z + pop_count (moved_in z) ≡ 0). (progress-keeps, inr (tt, under-way-moved z ∙ at-rest z some none e)))
        (λ (more : 1 ≤ push_count z + pop_count (moved_in z)). ((progress-on more).0, inl (progress-on more).1))
        (none-or-some (push_count z + pop_count (moved_in z)))

    -- no beat is accepted, since others wait before it
    progress-waits : 1 ≤ z.room → length z.inbox ≡ 0 → z.stage ≢ [] →
        (progress n x ≤ progress (n + 0) (moved z)) × ((progress n x + 1 ≤ progress (n + 0) (moved z)) ⊎ (⊥ × (under_way (moved z) ≡ 0)))
    progress-waits some none full = ⊎_elim
        (λ (e : push_count z + pop_count (moved_in z) ≡ 0).
        let rest : under_way z ≡ 0 = at-rest z some none e in
        let empty : length z.stage ≡ 0 = omega arith in
        absurd (full (nil_from_length z.stage empty)))
        (λ (more : 1 ≤ push_count z + pop_count (moved_in z)). ((progress-on more).0, inl (progress-on more).1))
        (none-or-some (push_count z + pop_count (moved_in z)))

  -- a beat is accepted
  progress-accepts : (x z : World H w v) → progress (n + 1) z ≡ progress (n + 1) x →
      (progress n x ≤ progress (n + 1) (moved z)) × ((progress n x + 1 ≤ progress (n + 1) (moved z)) ⊎ (⊥ × (under_way (moved z) ≡ 0)))
  progress-accepts x z as_far =
      let e : progress (n + 1) (moved z) ≡ progress (n + 1) x + (push_count z + pop_count (moved_in z)) =
      progress-moved z (n + 1) ∙ ap (λ k. k + (push_count z + pop_count (moved_in z))) as_far in
      let p : (progress n x ≤ progress (n + 1) (moved z)) × (progress n x + 1 ≤ progress (n + 1) (moved z)) =
      by-sum (length x.taken + length x.inbox + length x.ring) (length x.taken + length x.inbox) (push_count z + pop_count (moved_in z))
      (progress (n + 1) (moved z)) e in
      (p.0, inl p.1)
    where
      by-sum : (through out more after : ℕ) → after ≡ n + 1 + through + out + more → (n + through + out ≤ after) × (n + through + out + 1 ≤ after)
      by-sum through out more after e = (omega arith, omega arith)

  -- a channel waits only while beats are in its stage: a closed one has no beat left
  pub stage-full : (far : List (BeatOf H v)) (x : World H w v) → IsSent r bs n far x → (b : BeatOf H w) → slice_get bs n ≡ Some b →
      (x.stage ≢ []) ⊎ (x.closed ≡ true) → x.stage ≢ []
  stage-full far x s b next (inl full) = full
  stage-full far x s b next (inr closed) =
      let lt : n < length bs = slice_get_within bs n b next in
      let all : n ≡ length bs = s.shuts closed in
      absurd (omega arith)

  -- the channel has advanced, or it is stopped and nothing is under way
  pub progress-round : (far : List (BeatOf H v)) (x : World H w v) (o : Offered) (accepted : List (BeatOf H w)) (y : World H w v) →
      IsSent r bs n far x → Does r bs n answer home (emptied x) o accepted y →
      (progress n x ≤ progress (n + steps o) (moved y)) ×
      ((progress n x + 1 ≤ progress (n + steps o) (moved y)) ⊎ (IsStopped o × (under_way (moved y) ≡ 0)))
  progress-round far x Accepted accepted y s (b, next, lawful, one, is) =
      subst (λ z. (progress n x ≤ progress (n + 1) (moved z)) ×
      ((progress n x + 1 ≤ progress (n + 1) (moved z)) ⊎ (⊥ × (under_way (moved z) ≡ 0)))) (sym is)
      (progress-accepts x (offered r b (home b) (emptied x)) (progress-emptied x (n + 1)))
  progress-round far x NotReady accepted y s (b, next, full, none, is) =
      subst (λ z. (progress n x ≤ progress (n + 0) (moved z)) ×
      ((progress n x + 1 ≤ progress (n + 0) (moved z)) ⊎ (⊥ × (under_way (moved z) ≡ 0)))) (sym is)
      (progress-waits x (emptied x) (progress-emptied x n) s.room refl (stage-full far x s b next full))
  progress-round far x (Stopped Done) accepted y s (last, whole, none, is) =
      subst (λ z. (progress n x ≤ progress (n + 0) (moved z)) ×
      ((progress n x + 1 ≤ progress (n + 0) (moved z)) ⊎ (Unit {0} × (under_way (moved z) ≡ 0)))) (sym is)
      (progress-stopped x (shut (emptied x)) (progress-emptied x n) s.room refl)
  progress-round far x (Stopped Cut) accepted y s (last, begun, none, is) =
      subst (λ z. (progress n x ≤ progress (n + 0) (moved z)) ×
      ((progress n x + 1 ≤ progress (n + 0) (moved z)) ⊎ (Unit {0} × (under_way (moved z) ≡ 0)))) (sym is)
      (progress-stopped x (emptied x) (progress-emptied x n) s.room refl)
  progress-round far x (Stopped (Refused fault)) accepted y s (b, next, refused, none, is) =
      subst (λ z. (progress n x ≤ progress (n + 0) (moved z)) ×
      ((progress n x + 1 ≤ progress (n + 0) (moved z)) ⊎ (Unit {0} × (under_way (moved z) ≡ 0)))) (sym is)
      (progress-stopped x (emptied x) (progress-emptied x n) s.room refl)
