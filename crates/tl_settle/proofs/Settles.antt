-- The settled state of A and D: a possible step stays possible while the other channel advances, and the steps of a
-- round continue.
use Rattle.tl_settle.proofs.Names.{◌≡◌, ◌≤◌, ◌<◌, ◌+◌, ◌-◌, ◌≢◌, ℕ, zero, suc, Bool, true, false, cond, Option, None, Some, List, [], ◌∷◌, ◌++◌}
use Rattle.tl_settle.proofs.Names.{length, take, map, refl, sym, ap, subst, ◌∙◌, arith, zero-le, ⊎_elim, eqb_tells, slice_get_within, nat_lt, ◌==◌}
use Rattle.tl_settle.proofs.Names.{◌&&◌, not, slice_get, option_map_or, is_none, rules_a, rules_d, HeadA, HeadD, BeatOf, BeatFault, SideFault, Beat}
use Rattle.tl_settle.proofs.Names.{SourceBusy, NoRequest, SizeMismatch, Extends, count_by-append, count-grows, take-next, equal_true, true_equal}
use Rattle.tl_settle.proofs.Names.{less_true, true_less, map_true, map_imp, heads_open, heads_inside_one, NoFaults, no-faults-start, no-faults-next}
use Rattle.tl_settle.proofs.Names.{reads, due_behind, due_grows, homes_after, is_release_ack, is_request_of, is_response_to, requests_of}
use Rattle.tl_settle.proofs.Names.{responses_to, IsSettledState, far_a, far_d, goes_a, goes_d, held_response, is_free, requests, responses}
use Rattle.tl_settle.proofs.Names.{settled_state, stops_a, stops_d, Reaches, by_a, by_d, start, heads, left, fault_after}
use Rattle.tl_settle.proofs.SameHeads.{same_a, same_d}
use Rattle.tl_settle.proofs.Orders.{IsRound}
use Rattle.tl_settle.proofs.Persist.{settles}

-- the reason why a beat is refused, by its parts
busy_imp : (o : Option BeatFault) (l f f' : Bool) → (f ≡ true → f' ≡ true) →
    is_none (option_map_or (λ x. Some (Beat x)) o (cond l (cond f None (Some SourceBusy)) None)) ≡ true →
    is_none (option_map_or (λ x. Some (Beat x)) o (cond l (cond f' None (Some SourceBusy)) None)) ≡ true
busy_imp (Some x) l f f' h e = e
busy_imp None false f f' h e = refl
busy_imp None true false f' h e = cc
busy_imp None true true f' h e = rw (h refl) refl

ask_imp : (o : Option BeatFault) (l r n n' s : Bool) → (n ≡ true → n' ≡ true) →
    is_none (option_map_or (λ x. Some (Beat x)) o (cond l (cond r None (cond n (cond s None (Some SizeMismatch)) (Some NoRequest))) None)) ≡ true →
    is_none (option_map_or (λ x. Some (Beat x)) o (cond l (cond r None (cond n' (cond s None (Some SizeMismatch)) (Some NoRequest))) None)) ≡ true
ask_imp (Some x) l r n n' s h e = e
ask_imp None false r n n' s h e = refl
ask_imp None true true n n' s h e = refl
ask_imp None true false false n' s h e = cc
ask_imp None true false true n' s h e = rw (h refl) e

ask_true : (o : Option BeatFault) (r n s : Bool) → r ≡ false →
    is_none (option_map_or (λ x. Some (Beat x)) o (cond true (cond r None (cond n (cond s None (Some SizeMismatch)) (Some NoRequest))) None)) ≡ true →
    n ≡ true
ask_true (Some x) r n s h e = cc
ask_true None true n s h e = cc
ask_true None false true s h e = refl
ask_true None false false s h e = cc

-- a beat that nothing stops has no fault
no_fault : (o : Option BeatFault) (x : Option SideFault) → is_none (option_map_or (λ f. Some (Beat f)) o x) ≡ true → o ≡ None
no_fault None x e = refl
no_fault (Some f) x e = cc

-- the messages that begin in the far beats: requests at the manager's side, and responses at the client's side
abbrev pub requests_there : {C M : ℕ} (a : List (BeatOf HeadA C)) (d : List (BeatOf HeadD M)) (i : ℕ) → List HeadA
requests_there {C} {M} a d i = heads rules_a M (far_a a d i)

abbrev pub responses_there : {C M : ℕ} (a : List (BeatOf HeadA C)) (d : List (BeatOf HeadD M)) (j : ℕ) → List HeadD
responses_there {C} {M} a d j = heads rules_d C (far_d a d j)

module _ {C M : ℕ} (near : 0 < C) (far : 0 < M) (a : List (BeatOf HeadA C)) (d : List (BeatOf HeadD M)) where
  -- the property of every state that steps reach: no beat has a fault, and for each source no more responses have begun
  -- than requests at the manager's side
  pub record Good (i j : ℕ) : Type 0 where
    pub a_fine : NoFaults rules_a a i
    pub d_fine : NoFaults rules_d d j
    pub fewer : (s : ℕ) → responses_to s (responses a d j) ≤ requests_of s (requests_there a d i)

  pub there_grows : (i k s : ℕ) → i ≤ k → NoFaults rules_a a k → requests_of s (requests_there a d i) ≤ requests_of s (requests_there a d k)
  there_grows i k s h f =
      count-grows (is_request_of s) (due_grows rules_a same_a C near M far a (λ n. map (λ h. h.address) (requests a d n)) i k h f)

  pub there_on : (i : ℕ) → NoFaults rules_a a i → Extends (requests_there a d i) (requests a d i)
  there_on i f = due_behind rules_a same_a C near M far (take i a) (map (λ h. h.address) (requests a d i)) (reads rules_a same_a C near a i f)

  pub there_behind : (i s : ℕ) → NoFaults rules_a a i → requests_of s (requests_there a d i) ≤ requests_of s (requests a d i)
  there_behind i s f = count-grows (is_request_of s) (there_on i f)

  pub back_grows : (j k s : ℕ) → j ≤ k → NoFaults rules_d d k → responses_to s (responses_there a d j) ≤ responses_to s (responses_there a d k)
  back_grows j k s h f =
      count-grows (is_response_to s) (due_grows rules_d same_d M far C near d (λ n. homes_after (heads rules_a C a) [] (responses a d n)) j k h f)

  pub back_behind : (j s : ℕ) → NoFaults rules_d d j → responses_to s (responses_there a d j) ≤ responses_to s (responses a d j)
  back_behind j s f =
      count-grows (is_response_to s)
      (due_behind rules_d same_d M far C near (take j d) (homes_after (heads rules_a C a) [] (responses a d j)) (reads rules_d same_d M far d j f))

  Good-start : Good 0 0
  Good-start = record { a_fine = no-faults-start rules_a a; d_fine = no-faults-start rules_d d; fewer = λ s. zero-le }

  Good-a : (i j : ℕ) → Good i j → goes_a a d i j ≡ true → Good (suc i) j
  Good-a i j g e =
      let found = map_true (λ b. is_none (stops_a a d i j b)) (slice_get a i) e in
      let fine : NoFaults rules_a a (suc i) =
      no-faults-next found.0 found.1 (no_fault (fault_after rules_a (take i a) found.0) _ found.2) g.a_fine in
      record {
        a_fine = fine;
        d_fine = g.d_fine;
        fewer = λ s. let h = g.fewer s in let k = there_grows i (suc i) s (omega arith) fine in omega arith;
      }

  counts_one : (s : ℕ) (h : HeadD) (t u : Bool) → is_release_ack h ≡ t → (h.source == s) ≡ u →
      ◌≡◌ {A = ℕ} (cond (is_response_to s h) 1 0) (cond (not t && u) 1 0)
  counts_one s h t u e f = ap (λ x. cond (not x && (h.source == s)) 1 0) e ∙ ap (λ x. cond (not t && x) 1 0) f

  -- one more response of D
  one_more : (j : ℕ) (h : HeadD) (n : ℕ) (t : Bool) → is_release_ack h ≡ t →
      (t ≡ false → responses_to h.source (responses a d j) < n) →
      (s : ℕ) → (k : ℕ) → (s ≡ h.source → k ≡ n) → responses_to s (responses a d j) ≤ k →
      responses_to s (responses a d j ++ h ∷ []) ≤ k
  one_more j h n true e room s k same old =
      let c = count_by-append (is_response_to s) (responses a d j) (h ∷ []) in
      let u : ◌≡◌ {A = ℕ} (cond (is_response_to s h) 1 0) 0 = ap (λ x. cond (not x && (h.source == s)) 1 0) e in
      omega arith
  one_more j h n false e room s k same old =
      let c = count_by-append (is_response_to s) (responses a d j) (h ∷ []) in
      ⊎_elim
      (λ (p : ((h.source == s) ≡ true) × (h.source ≡ s)).
      let u : ◌≡◌ {A = ℕ} (cond (is_response_to s h) 1 0) 1 = counts_one s h false true e p.0 in
      let r : responses_to s (responses a d j) < n = subst (λ x. responses_to x (responses a d j) < n) p.1 (room refl) in
      let q : k ≡ n = same (sym p.1) in
      omega arith)
      (λ (p : ((h.source == s) ≡ false) × (h.source ≢ s)).
      let u : ◌≡◌ {A = ℕ} (cond (is_response_to s h) 1 0) 0 = counts_one s h false false e p.0 in
      omega arith)
      (eqb_tells h.source s)

  after_d : (i j : ℕ) (b : BeatOf HeadD M) (l : ℕ) → left rules_d M (take j d) ≡ l → is_none (stops_d a d i j b) ≡ true → Good i j →
      (s : ℕ) → responses_to s (heads rules_d M (take j d ++ b ∷ [])) ≤ requests_of s (requests_there a d i)
  after_d i j b (suc l) e stop g s =
      subst (λ hs. responses_to s hs ≤ requests_of s (requests_there a d i))
      (sym (heads_inside_one rules_d M 0 l (take j d) b e)) (g.fewer s)
  after_d i j b zero e stop g s =
      subst (λ hs. responses_to s hs ≤ requests_of s (requests_there a d i))
      (sym (heads_open rules_d M 0 (take j d) b e))
      (one_more j b.head (requests_of b.head.source (requests_there a d i)) (is_release_ack b.head) refl
      (λ ack. true_less _ _ (ask_true (fault_after rules_d (take j d) b) (is_release_ack b.head) _ _ ack
      (subst (λ x. is_none (option_map_or (λ f. Some (Beat f)) (fault_after rules_d (take j d) b)
      (cond (x == 0) (held_response a d i j b.head) None)) ≡ true) e stop)))
      s (requests_of s (requests_there a d i))
      (λ q. ap (λ x. requests_of x (requests_there a d i)) q) (g.fewer s))

  Good-d : (i j : ℕ) → Good i j → goes_d a d i j ≡ true → Good i (suc j)
  Good-d i j g e =
      let found = map_true (λ b. is_none (stops_d a d i j b)) (slice_get d j) e in
      record {
        a_fine = g.a_fine;
        d_fine = no-faults-next found.0 found.1 (no_fault (fault_after rules_d (take j d) found.0) _ found.2) g.d_fine;
        fewer = λ s.
            subst (λ xs. responses_to s (heads rules_d M xs) ≤ requests_of s (requests_there a d i))
            (sym (take-next d j found.0 found.1)) (after_d i j found.0 (left rules_d M (take j d)) refl found.2 g s);
      }

  -- a beat of A that can be accepted stays so while D advances: the responses that have come back are between those
  -- before and the requests
  pub stays_a : (i j k : ℕ) → Good i k → j ≤ k → goes_a a d i j ≡ true → goes_a a d i k ≡ true
  stays_a i j k g h e =
      map_imp (λ b. is_none (stops_a a d i j b)) (λ b. is_none (stops_a a d i k b)) (slice_get a i)
      (λ b stop. busy_imp (fault_after rules_a (take i a) b) (left rules_a C (take i a) == 0)
      (is_free a d i j b.head.source) (is_free a d i k b.head.source)
      (λ free.
      let s : ℕ = b.head.source in
      let x : requests_of s (requests a d i) ≡ responses_to s (responses_there a d j) = true_equal _ _ free in
      let y = back_grows j k s h g.d_fine in
      let z = back_behind k s g.d_fine in
      let u = g.fewer s in
      let v = there_behind i s g.a_fine in
      equal_true _ _ (omega arith))
      stop)
      e

  -- and a beat of D that can be accepted stays so while A advances
  pub stays_d : (i j k : ℕ) → Good k j → i ≤ k → goes_d a d i j ≡ true → goes_d a d k j ≡ true
  stays_d i j k g h e =
      map_imp (λ b. is_none (stops_d a d i j b)) (λ b. is_none (stops_d a d k j b)) (slice_get d j)
      (λ b stop. ask_imp (fault_after rules_d (take j d) b) (left rules_d M (take j d) == 0) (is_release_ack b.head)
      (nat_lt (responses_to b.head.source (responses a d j)) (requests_of b.head.source (requests_there a d i)))
      (nat_lt (responses_to b.head.source (responses a d j)) (requests_of b.head.source (requests_there a d k)))
      _
      (λ less.
      let x = true_less _ _ less in
      let y = there_grows i k b.head.source h g.a_fine in
      less_true _ _ (omega arith))
      stop)
      e

  ends_a : (i j : ℕ) → goes_a a d i j ≡ true → i < length a
  ends_a i j e = let found = map_true (λ b. is_none (stops_a a d i j b)) (slice_get a i) e in slice_get_within a i found.0 found.1

  ends_d : (i j : ℕ) → goes_d a d i j ≡ true → j < length d
  ends_d i j e = let found = map_true (λ b. is_none (stops_d a d i j b)) (slice_get d j) e in slice_get_within d j found.0 found.1

  -- no more beats are accepted than there are
  pub within : {i j : ℕ} → Reaches (goes_a a d) (goes_d a d) i j → (i ≤ length a) × (j ≤ length d)
  within start = (zero-le, zero-le)
  within (by_a i j r g) = (ends_a i j g, (within r).1)
  within (by_d i j r g) = ((within r).0, ends_d i j g)

  pub one_settled : IsSettledState a d (settled_state a d)
  one_settled =
      settles (goes_a a d) (goes_d a d) (length a) (length d) Good Good-start Good-a Good-d stays_a stays_d ends_a ends_d

  -- the invariant at every state that may be reached
  pub good : {i j : ℕ} → Reaches (goes_a a d) (goes_d a d) i j → Good i j
  good start = Good-start
  good (by_a i j r g) = Good-a i j (good r) g
  good (by_d i j r g) = Good-d i j (good r) g

  -- the steps of a round lead on
  a_run : (i j x : ℕ) → Reaches (goes_a a d) (goes_d a d) i j → (n : ℕ) → x ≡ i + n → ((k : ℕ) → i ≤ k → k < x → goes_a a d k j ≡ true) →
      Reaches (goes_a a d) (goes_d a d) x j
  a_run i j x r zero e g = let f : i ≡ x = omega arith in rw f at r
  a_run i j x r (suc n) e g =
      let before : Reaches (goes_a a d) (goes_d a d) (i + n) j = a_run i j (i + n) r n refl (λ k l m. g k l (omega arith)) in
      let f : suc (i + n) ≡ x = omega arith in
      subst (λ q. Reaches (goes_a a d) (goes_d a d) q j) f (by_a (i + n) j before (g (i + n) (omega arith) (omega arith)))

  -- D's steps stay possible after A's
  later : (i j x y : ℕ) → Reaches (goes_a a d) (goes_d a d) x j → i ≤ x → (n : ℕ) → y ≡ j + n → ((k : ℕ) → j ≤ k → k < y → goes_d a d i k ≡ true) →
      Reaches (goes_a a d) (goes_d a d) x y
  later i j x y r l zero e g = let f : j ≡ y = omega arith in rw f at r
  later i j x y r l (suc n) e g =
      let before : Reaches (goes_a a d) (goes_d a d) x (j + n) = later i j x (j + n) r l n refl (λ k l m. g k l (omega arith)) in
      let f : suc (j + n) ≡ y = omega arith in
      subst (λ q. Reaches (goes_a a d) (goes_d a d) x q) f
      (by_d x (j + n) before (stays_d i (j + n) x (good before) l (g (j + n) (omega arith) (omega arith))))

  pub round_reaches : (i j x y : ℕ) → Reaches (goes_a a d) (goes_d a d) i j → IsRound a d i j x y → Reaches (goes_a a d) (goes_d a d) x y
  round_reaches i j x y r round =
      let l = round.a_on in
      let m = round.d_on in
      later i j x y (a_run i j x r (x - i) (omega arith) round.a_goes) l (y - j) (omega arith) round.d_goes
