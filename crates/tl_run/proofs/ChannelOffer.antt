-- The effect of an offer of the next beat on one channel, whose other end belongs to another thread.
use Rattle.tl_run.proofs.Names.{◌↔◌, zero, suc, ◌≡◌, ◌+◌, ◌<◌, ◌≤◌, ℕ, None, Some, Option, List, [], ◌∷◌, ◌++◌, length, map, take, get_or, refl, sym}
use Rattle.tl_run.proofs.Names.{ap, subst, ◌∙◌, arith, slice_get, slice_get_within, get_or_from_slice_get, Rules, BeatOf, SideFault, heads, left}
use Rattle.tl_run.proofs.Names.{Handed, fault_after, rest_of, with_home, homes_with, map-append, World, offered, shut, Does, Stops, IsSent, IsHomed}
use Rattle.tl_run.proofs.Names.{steps, Offered, Accepted, NotReady, Stopped, Done, Cut, Refused, none_past}
use Rattle.tl_burst.specs.Messages.{Message}
use Rattle.tl_convert.proofs.Begins.{heads_open, heads_inside_one}
use Rattle.tl_burst.proofs.BegunMessages.{left-zero}
use Rattle.tl_convert.proofs.CountLoop.{one-more, accepted-next}
use Rattle.tl_run.proofs.Counting.{none-more}
pub use Rattle.tl_sides.proofs.Draining.{answered-all, asked-all}

-- the homes of one beat more
module _ {H : Type 0} (r : Rules H) {w : ℕ} (xs : List (BeatOf H w)) (homes : List ℕ)
    (is : homes ≡ map (λ h. r.lane_address h 0) (heads r w xs)) (b : BeatOf H w) where
  -- the beat opens a message, or continues one
  home-by : (rest : List (BeatOf H w)) (l : ℕ) → left r w xs ≡ l → (l ≡ 0) ↔ (rest ≡ []) →
      with_home r (r.lane_address b.head 0) rest homes ≡ map (λ h. r.lane_address h 0) (heads r w (xs ++ b ∷ []))
  home-by [] l e f =
      ap (λ q. q ++ r.lane_address b.head 0 ∷ []) is ∙ sym (map-append (λ h. r.lane_address h 0) (heads r w xs) (b.head ∷ [])) ∙
      ap (λ q. map (λ h. r.lane_address h 0) q) (sym (heads_open r w 0 xs b (e ∙ f.1 refl)))
  home-by (c ∷ rest) zero e f = let bad : (c ∷ rest) ≡ [] = f.0 refl in cc
  home-by (c ∷ rest) (suc l) e f = is ∙ ap (λ q. map (λ h. r.lane_address h 0) q) (sym (heads_inside_one r w 0 l xs b e))

  -- the homes are those that the heads determine
  homes-say : (left r w xs ≡ 0) ↔ (rest_of r w xs ≡ []) → homes_with r xs homes b 0 ≡ map (λ h. r.lane_address h 0) (heads r w (xs ++ b ∷ []))
  homes-say f = home-by (rest_of r w xs) (left r w xs) refl f

module _ {H : Type 0} (r : Rules H) {w v : ℕ} (bs : List (BeatOf H w)) (n : ℕ) (answer : BeatOf H w → Option SideFault) (home : BeatOf H w → ℕ) where
  module _ (x : World H w v) (s : IsSent r bs n x.taken x) where
    -- no beat was accepted
    still : IsSent r bs (n + 0) x.taken x
    still = subst (λ k. IsSent r bs k x.taken x) (none-more n) s

    -- the channel was closed, after its last beat
    closed : slice_get bs n ≡ None → IsSent r bs (n + 0) (shut x).taken (shut x)
    closed e =
        let past : length bs ≤ n = none_past bs n e in
        let most : n ≤ length bs = s.most in
        let all : n ≡ length bs = omega arith in
        subst (λ k. IsSent r bs k (shut x).taken (shut x)) (none-more n) (record {
          accepted = s.accepted;
          most = s.most;
          lawful = s.lawful;
          taken = refl;
          shuts = λ _. all;
          room = s.room;
        })

    -- one beat more was accepted
    more : (b : BeatOf H w) → slice_get bs n ≡ Some b → fault_after r x.accepted b ≡ None → (h : ℕ) →
        IsSent r bs (n + 1) (offered r b h x).taken (offered r b h x)
    more b e lawful h =
        let lt : n < length bs = slice_get_within bs n b e in
        let is : b ≡ get_or bs n b = sym (get_or_from_slice_get bs n b b e) in
        let seen : fault_after r (take n bs) b ≡ None = subst (λ q. fault_after r q b ≡ None) s.accepted lawful in
        record {
          accepted = ap (λ q. q ++ b ∷ []) s.accepted ∙ sym (one-more r bs n s.lawful b lt is);
          most = omega arith;
          lawful = accepted-next r bs n s.lawful b lt is seen;
          taken = refl;
          shuts = λ c. let all : n ≡ length bs = s.shuts c in absurd (omega arith);
          room = s.room;
        }

  -- one beat more was accepted, or none
  pub sent-offer : (x : World H w v) (o : Offered) (accepted : List (BeatOf H w)) (y : World H w v) → IsSent r bs n x.taken x →
      ((b : BeatOf H w) → answer b ≡ None → fault_after r x.accepted b ≡ None) → Does r bs n answer home x o accepted y →
      IsSent r bs (n + steps o) y.taken y
  sent-offer x Accepted accepted y s own (b, next, none, one, is) =
      subst (λ z. IsSent r bs (n + 1) z.taken z) (sym is) (more x s b next (own b none) (home b))
  sent-offer x NotReady accepted y s own (b, next, full, none, is) =
      subst (λ z. IsSent r bs (n + 0) z.taken z) (sym is) (still x s)
  sent-offer x (Stopped Done) accepted y s own (last, whole, none, is) =
      subst (λ z. IsSent r bs (n + 0) z.taken z) (sym is) (closed x s last)
  sent-offer x (Stopped Cut) accepted y s own (last, begun, none, is) =
      subst (λ z. IsSent r bs (n + 0) z.taken z) (sym is) (still x s)
  sent-offer x (Stopped (Refused fault)) accepted y s own (b, next, refused, none, is) =
      subst (λ z. IsSent r bs (n + 0) z.taken z) (sym is) (still x s)

  -- the beats determine their homes themselves, if nothing else does
  pub homed-offer : (x : World H w v) (o : Offered) (accepted : List (BeatOf H w)) (y : World H w v) {ms : List (Message H)}
      {rest : List (BeatOf H w)} → Handed r w x.accepted x.homes ms rest →
      IsHomed r x → ((b : BeatOf H w) → home b ≡ 0) → Does r bs n answer home x o accepted y → IsHomed r y
  homed-offer x Accepted accepted y handed homed none (b, next, lawful, one, is) =
      subst (λ z. IsHomed r z) (sym is)
      (subst (λ k. IsHomed r (offered r b k x)) (sym (none b)) (homes-say r x.accepted x.homes homed b (left-zero r w handed)))
  homed-offer x NotReady accepted y handed homed none (b, next, full, nothing, is) = subst (λ z. IsHomed r z) (sym is) homed
  homed-offer x (Stopped Done) accepted y handed homed none (last, whole, nothing, is) = subst (λ z. IsHomed r z) (sym is) homed
  homed-offer x (Stopped Cut) accepted y handed homed none (last, begun, nothing, is) = subst (λ z. IsHomed r z) (sym is) homed
  homed-offer x (Stopped (Refused fault)) accepted y handed homed none (b, next, refused, nothing, is) = subst (λ z. IsHomed r z) (sym is) homed

  -- the reason why the channel is stopped, if it is
  pub stops-offer : (x : World H w v) (o : Offered) (accepted : List (BeatOf H w)) (y : World H w v) → Does r bs n answer home x o accepted y →
      Stops r bs (n + steps o) answer y.accepted o
  stops-offer x Accepted accepted y does = tt
  stops-offer x NotReady accepted y does = tt
  stops-offer x (Stopped Done) accepted y (last, whole, none, is) =
      (subst (λ k. slice_get bs k ≡ None) (none-more n) last, subst (λ z. rest_of r w z.accepted ≡ []) (sym is) whole)
  stops-offer x (Stopped Cut) accepted y (last, begun, none, is) =
      (subst (λ k. slice_get bs k ≡ None) (none-more n) last, subst (λ z. rest_of r w z.accepted ≡ [] → ⊥) (sym is) begun)
  stops-offer x (Stopped (Refused fault)) accepted y (b, next, refused, none, is) =
      (b, subst (λ k. slice_get bs k ≡ Some b) (none-more n) next, refused)

-- after a move to the ring, the accepted beats are the same
pub sent-passed : {H : Type 0} (r : Rules H) {w v : ℕ} (bs : List (BeatOf H w)) (n : ℕ) (far : List (BeatOf H v))
    (x y : World H w v) → IsSent r bs n far x →
    y.accepted ≡ x.accepted → y.closed ≡ x.closed → y.room ≡ x.room → (other : List (BeatOf H v)) → other ≡ y.taken → IsSent r bs n other y
sent-passed r bs n far x y s accepted closed room other taken = record {
  accepted = accepted ∙ s.accepted;
  most = s.most;
  lawful = s.lawful;
  taken = taken;
  shuts = λ c. s.shuts (sym closed ∙ c);
  room = subst (λ k. 1 ≤ k) (sym room) s.room;
}
