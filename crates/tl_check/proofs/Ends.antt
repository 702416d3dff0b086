-- If A and D are both stopped, they are at the settled state, and the reasons are those that its verdicts read.
use Rattle.tl_check.proofs.Names.{◌≡◌, ◌≤◌, ℕ, false, Option, None, Some, List, [], length, map, take, refl, sym, ap, subst, ◌∙◌, slice_get_past}
use Rattle.tl_check.proofs.Names.{slice_get, option_map_or, is_none, IsWidth, rules_a, rules_d, HeadA, HeadD, BeatOf, SideFault, heads, left}
use Rattle.tl_check.proofs.Names.{verdict_of, verdict_a, verdict_d, requests, responses, far_a, far_d, goes_a, goes_d, settled_state, stops_a}
use Rattle.tl_check.proofs.Names.{stops_d, Client, Manager, KnowsClient, KnowsManager, AreAt, HasCome}
use Rattle.tl_lanes.proofs.Widths.{width_bounds}
use Rattle.tl_msg.specs.declared.verdict.Verdict.{Verdict}
use Rattle.tl_settle.specs.Requests.{homes_after}
use Rattle.tl_settle.specs.Steps.{State, Settled}
use Rattle.tl_settle.proofs.Runs.{run_is}
use Rattle.tl_settle.proofs.Settles.{one_settled}
use Rattle.tl_settle.specs.Rounds.{begins}

-- a beat that is refused, or does not exist, is not accepted
stays : {B : Type 0} (stops : B → Option SideFault) (o : Option B) (stopped_by : Option SideFault) → stopped_by ≡ option_map_or stops o None →
    (stopped_by ≡ None → o ≡ None) → option_map_or (λ b. is_none (stops b)) o false ≡ false
stays stops None stopped_by e all = refl
stays stops (Some b) None e all = let no_beat = all refl in cc
stays stops (Some b) (Some fault) e all = ap is_none (sym e)

-- the reason why a beat is refused, if there is a beat
pub stopped-at : {B : Type 0} (stops : B → Option SideFault) (bs : List B) (n : ℕ) (b : B) (fault : SideFault) → slice_get bs n ≡ Some b →
    stops b ≡ Some fault → Some fault ≡ option_map_or stops (slice_get bs n) None
stopped-at stops bs n b fault at e = sym (ap (λ o. option_map_or stops o None) at ∙ e)

-- the books of two sides that have accepted and taken nothing
pub starts-at : {C M : ℕ} (a : List (BeatOf HeadA C)) (d : List (BeatOf HeadD M)) (i j : ℕ) (client : Client) (manager : Manager) → i ≡ 0 → j ≡ 0 →
    KnowsClient {w = C} client [] → KnowsManager {w = M} manager [] → AreAt a d i j client manager
starts-at a d i j client manager i_none j_none client_knows manager_knows =
    subst (λ k. AreAt a d k j client manager) (sym i_none) (subst (λ k. AreAt a d 0 k client manager) (sym j_none) (record {
      client_history = [];
      manager_history = [];
      client_knows = client_knows;
      manager_knows = manager_knows;
      run = begins;
      a_taken = refl;
      d_taken = refl;
    }))

-- A was stopped, or at its end, after `before` accepted beats of D, and no more of them were accepted since
module _ {C M : ℕ} (cw : IsWidth C) (mw : IsWidth M) (a : List (BeatOf HeadA C)) (d : List (BeatOf HeadD M)) (i before j : ℕ) (still : before ≡ j)
    (client : Client) (manager : Manager) (s : AreAt a d i j client manager) (a_stops d_stops : Option SideFault)
    (a_was : a_stops ≡ option_map_or (λ b. stops_a a d i before b) (slice_get a i) None) (a_all : a_stops ≡ None → length a ≤ i)
    (d_is : d_stops ≡ option_map_or (λ b. stops_d a d i j b) (slice_get d j) None) (d_all : d_stops ≡ None → length d ≤ j) where
  a_is : a_stops ≡ option_map_or (λ b. stops_a a d i j b) (slice_get a i) None
  a_is = a_was ∙ ap (λ k. option_map_or (λ b. stops_a a d i k b) (slice_get a i) None) still

  settled : (i ≡ (settled_state a d).a) × (j ≡ (settled_state a d).d)
  settled =
      let c_some = (width_bounds C cw).0 in
      let m_some = (width_bounds M mw).0 in
      let there : Settled (goes_a a d) (goes_d a d) i j = record {
        reached = (run_is c_some m_some a d s.run).reached;
        a_stops = stays (λ b. stops_a a d i j b) (slice_get a i) a_stops a_is (λ none. slice_get_past a i (a_all none));
        d_stops = stays (λ b. stops_d a d i j b) (slice_get d j) d_stops d_is (λ none. slice_get_past d j (d_all none));
      } in
      (one_settled c_some m_some a d).only i j there

  -- the verdicts of a state
  abbrev a_at : (n m far : ℕ) → Verdict
  a_at n m far = verdict_of n far (left rules_a C (take n a)) (option_map_or (λ b. stops_a a d n m b) (slice_get a n) None)

  abbrev d_at : (n m far : ℕ) → Verdict
  d_at n m far = verdict_of m far (left rules_d M (take m d)) (option_map_or (λ b. stops_d a d n m b) (slice_get d m) None)

  a-ends : (burst : Option (HeadA × ℕ)) (far : ℕ) → HasCome rules_a M a burst i far →
      verdict_of i far (left rules_a C (take i a)) a_stops ≡ verdict_a a d
  a-ends burst far come =
      let there : State = settled_state a d in
      ap (λ o. verdict_of i far (left rules_a C (take i a)) o) a_is ∙
      ap (λ n. a_at i j n) (come.far_is (map (λ h. h.address) (requests a d i))) ∙
      ap (λ n. a_at n j (length (far_a a d n))) settled.0 ∙ ap (λ m. a_at there.a m (length (far_a a d there.a))) settled.1

  d-ends : (burst : Option (HeadD × ℕ)) (far : ℕ) → HasCome rules_d C d burst j far →
      verdict_of j far (left rules_d M (take j d)) d_stops ≡ verdict_d a d
  d-ends burst far come =
      let there : State = settled_state a d in
      ap (λ o. verdict_of j far (left rules_d M (take j d)) o) d_is ∙
      ap (λ n. d_at i j n) (come.far_is (homes_after (heads rules_a C a) [] (responses a d j))) ∙
      ap (λ n. d_at n j (length (far_d a d j))) settled.0 ∙ ap (λ m. d_at there.a m (length (far_d a d m))) settled.1

  pub both-end : (a_burst : Option (HeadA × ℕ)) (a_far : ℕ) → HasCome rules_a M a a_burst i a_far →
      (d_burst : Option (HeadD × ℕ)) (d_far : ℕ) → HasCome rules_d C d d_burst j d_far →
      (verdict_of i a_far (left rules_a C (take i a)) a_stops ≡ verdict_a a d) ×
      (verdict_of j d_far (left rules_d M (take j d)) d_stops ≡ verdict_d a d)
  both-end a_burst a_far a_come d_burst d_far d_come = (a-ends a_burst a_far a_come, d-ends d_burst d_far d_come)
