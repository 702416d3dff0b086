-- The effect of a round on channels A and D of a run, and their end.
use Rattle.tl_run.proofs.Names.{◌≡◌, ◌+◌, ◌++◌, ◌<◌, ℕ, None, List, length, map, take, sym, ap, ◌∙◌, slice_get, option_map_or, IsWidth, rules_a}
use Rattle.tl_run.proofs.Names.{rules_d, HeadA, HeadD, BeatOf, Verdict, heads, left, due, Ask, Answer, asked, answered, client_answer, manager_answer}
use Rattle.tl_run.proofs.Names.{manager_home, manager_homes, Run, round, ClientMoves, ManagerMoves, client_rests, manager_rests, IsOver, IsSettledRun}
use Rattle.tl_run.proofs.Names.{verdict_a, verdict_d, verdict_of, Bridge, Past, StandsFor, Does, Stops, IsSent, IsHomed, steps, emptied, under_way}
use Rattle.tl_run.proofs.Names.{stop_verdict, Offered, Stopped, Stop, World}
use mathlib.Core.List.{IsPrefix}
use Rattle.tl_lanes.proofs.Widths.{width_bounds}
use Rattle.tl_settle.specs.Settling.{settled_state, stops_a, stops_d}
use Rattle.tl_settle.specs.Settling.{far_a as due_far_a, far_d as due_far_d}
use Rattle.tl_settle.specs.Steps.{State}
use Rattle.tl_settle.proofs.Homes.{far_a_given, far_d_given}
use Rattle.tl_settle.proofs.Runs.{RunIs, run_is, over}
use Rattle.tl_run.proofs.RoundMoves.{client-offers, manager-offers}
use Rattle.tl_parts.proofs.Takes.{client-takes-all, manager-takes-all}
use Rattle.tl_run.proofs.ChannelEnd.{inbox-due, all-taken, handed-accepted, stop-refuses, stop-verdict}

module _ {C M : ℕ} (cw : IsWidth C) (mw : IsWidth M) (a : List (BeatOf HeadA C)) (d : List (BeatOf HeadD M)) (i j : ℕ) (s : Bridge C M) (x : Past C M)
    (stands : StandsFor s x) (run : Run a d i j x.client x.manager) (homed : IsHomed rules_a x.a) where
  -- the far beats of the accepted beats of A are the far list of the definitions
  pub due-a : due rules_a C M x.a.accepted x.a.homes ≡ due_far_a a d i
  due-a =
      let near : 0 < C = (width_bounds C cw).0 in
      let far : 0 < M = (width_bounds M mw).0 in
      let is : RunIs near far a d i j x.client x.manager = run_is near far a d run in
      ap (λ hs. due rules_a C M x.a.accepted hs) homed ∙
      ap (λ bs. due rules_a C M bs (map (λ h. h.address) (heads rules_a C bs))) (sym stands.client_asked) ∙
      far_a_given near far a d i j x.client is.client

  -- the far beats of the accepted beats of D are the far list of the definitions
  pub due-d : due rules_d M C x.d.accepted x.d.homes ≡ due_far_d a d j
  due-d =
      let near : 0 < C = (width_bounds C cw).0 in
      let far : 0 < M = (width_bounds M mw).0 in
      let is : RunIs near far a d i j x.client x.manager = run_is near far a d run in
      ap (λ hs. due rules_d M C x.d.accepted hs) (sym stands.homes) ∙
      ap (λ bs. due rules_d M C bs (manager_homes x.manager)) (sym stands.manager_answered) ∙
      far_d_given near far a d i j x.manager is.reached is.manager_is

  -- the beats in the inboxes are due
  on-a : IsPrefix (asked x.manager ++ x.a.inbox) (due_far_a a d i)
  on-a = inbox-due rules_a x.a stands.a.crosses (asked x.manager) stands.manager_asked (due_far_a a d i) due-a

  on-d : IsPrefix (answered x.client ++ x.d.inbox) (due_far_d a d j)
  on-d = inbox-due rules_d x.d stands.d.crosses (answered x.client) stands.client_answered (due_far_d a d j) due-d

  -- both sides take it
  takes-client : ClientMoves a d j i x.client i (x.client ++ map Answer x.d.inbox)
  takes-client = client-takes-all a d j i x.client i x.client x.d.inbox client_rests on-d

  takes-manager : ManagerMoves a d i j x.manager j (x.manager ++ map Ask x.a.inbox)
  takes-manager = manager-takes-all a d i j x.manager j x.manager x.a.inbox manager_rests on-a

  pub takes-round : Run a d i j (x.client ++ map Answer x.d.inbox) (x.manager ++ map Ask x.a.inbox)
  takes-round = round i j i j x.client (x.client ++ map Answer x.d.inbox) x.manager (x.manager ++ map Ask x.a.inbox) run takes-client takes-manager

  -- both sides take the beats of their inboxes, and then offer a beat or none: a round
  pub run-round : (o p : Offered) (asks : List (BeatOf HeadA C)) (answers : List (BeatOf HeadD M)) (y : World HeadA C M) (z : World HeadD M C) →
      Does rules_a a i (client_answer (x.client ++ map Answer x.d.inbox)) (λ _. 0) (emptied x.a) o asks y →
      Does rules_d d j (manager_answer (x.manager ++ map Ask x.a.inbox))
      (λ b. manager_home (x.manager ++ map Ask x.a.inbox) b.head) (emptied x.d) p answers z →
      Run a d (i + steps o) (j + steps p) ((x.client ++ map Answer x.d.inbox) ++ map Ask asks)
      ((x.manager ++ map Ask x.a.inbox) ++ map Answer answers)
  run-round o p asks answers y z does_a does_d =
      round i j (i + steps o) (j + steps p) x.client ((x.client ++ map Answer x.d.inbox) ++ map Ask asks)
      x.manager ((x.manager ++ map Ask x.a.inbox) ++ map Answer answers) run
      (client-offers a d j i x.client i (x.client ++ map Answer x.d.inbox) (λ _. 0) (emptied x.a) o asks y takes-client does_a)
      (manager-offers a d i j x.manager j (x.manager ++ map Ask x.a.inbox) (λ b. manager_home (x.manager ++ map Ask x.a.inbox) b.head) (emptied x.d) p
      answers z takes-manager does_d)

  -- if nothing is under way and both channels are stopped, the run has reached the settled state
  module _ (far_a : List (BeatOf HeadA M)) (far_d : List (BeatOf HeadD C)) (a_sent : IsSent rules_a a i far_a x.a)
      (d_sent : IsSent rules_d d j far_d x.d)
      (stop_a stop_d : Stop) (a_stops : Stops rules_a a i (client_answer x.client) x.a.accepted (Stopped stop_a))
      (d_stops : Stops rules_d d j (manager_answer x.manager) x.d.accepted (Stopped stop_d)) (a_rests : under_way x.a ≡ 0)
      (d_rests : under_way x.d ≡ 0) where
    pub record IsSettledEnd : Type 0 where
      pub a_count : i ≡ (settled_state a d).a
      pub d_count : j ≡ (settled_state a d).d
      pub a_far : far_a ≡ due_far_a a d (settled_state a d).a
      pub d_far : far_d ≡ due_far_d a d (settled_state a d).d
      pub a_verdict : stop_verdict stop_a i (length far_a) ≡ verdict_a a d
      pub d_verdict : stop_verdict stop_d j (length far_d) ≡ verdict_d a d

    -- all beats of A that are due were taken
    asked-all : asked x.manager ≡ due_far_a a d i
    asked-all = stands.manager_asked ∙ all-taken rules_a x.a stands.a.crosses a_rests ∙ due-a

    -- all beats of D that are due were taken
    answered-all : answered x.client ≡ due_far_d a d j
    answered-all = stands.client_answered ∙ all-taken rules_d x.d stands.d.crosses d_rests ∙ due-d

    -- the run is over
    is-over : IsOver a d i j x.client x.manager
    is-over = record {
      run = run;
      a_taken = asked-all;
      d_taken = answered-all;
      a_stops = stop-refuses rules_a a i (client_answer x.client) x.a.accepted stop_a a_stops;
      d_stops = stop-refuses rules_d d j (manager_answer x.manager) x.d.accepted stop_d d_stops;
    }

    -- so it is at the settled state
    settled : IsSettledRun a d i j x.client x.manager
    settled = over (width_bounds C cw).0 (width_bounds M mw).0 a d i j x.client x.manager is-over

    -- the far beats are those of the definitions, for A and for D
    far-a-is : far_a ≡ due_far_a a d i
    far-a-is = a_sent.taken ∙ sym stands.manager_asked ∙ asked-all

    far-d-is : far_d ≡ due_far_d a d j
    far-d-is = d_sent.taken ∙ sym stands.client_answered ∙ answered-all

    -- the verdicts of a state
    abbrev verdict-a-at : ℕ → ℕ → List (BeatOf HeadA M) → Verdict
    verdict-a-at n m far = verdict_of n (length far) (left rules_a C (take n a)) (option_map_or (λ b. stops_a a d n m b) (slice_get a n) None)

    abbrev verdict-d-at : ℕ → ℕ → List (BeatOf HeadD C) → Verdict
    verdict-d-at n m far = verdict_of m (length far) (left rules_d M (take m d)) (option_map_or (λ b. stops_d a d n m b) (slice_get d m) None)

    -- A ends with the verdict of the settled state
    a-verdict : stop_verdict stop_a i (length far_a) ≡ verdict_a a d
    a-verdict =
        let s : State = settled_state a d in
        stop-verdict rules_a a i (client_answer x.client) x.a.accepted (stops_a a d i j) settled.a_answer (length far_a) stop_a a_stops
        (handed-accepted rules_a x.a stands.a.crosses) a_sent.accepted ∙
        ap (λ q. verdict-a-at i j q) far-a-is ∙ ap (λ n. verdict-a-at n j (due_far_a a d n)) settled.a_there ∙
        ap (λ m. verdict-a-at s.a m (due_far_a a d s.a)) settled.d_there

    -- D ends with the verdict of the settled state
    d-verdict : stop_verdict stop_d j (length far_d) ≡ verdict_d a d
    d-verdict =
        let s : State = settled_state a d in
        stop-verdict rules_d d j (manager_answer x.manager) x.d.accepted (stops_d a d i j) settled.d_answer (length far_d) stop_d d_stops
        (handed-accepted rules_d x.d stands.d.crosses) d_sent.accepted ∙
        ap (λ q. verdict-d-at i j q) far-d-is ∙ ap (λ n. verdict-d-at n j (due_far_d a d j)) settled.a_there ∙
        ap (λ m. verdict-d-at s.a m (due_far_d a d m)) settled.d_there

    pub run-end : IsSettledEnd
    run-end = record {
      a_count = settled.a_there;
      d_count = settled.d_there;
      a_far = far-a-is ∙ ap (λ n. due_far_a a d n) settled.a_there;
      d_far = far-d-is ∙ ap (λ m. due_far_d a d m) settled.d_there;
      a_verdict = a-verdict;
      d_verdict = d-verdict;
    }
