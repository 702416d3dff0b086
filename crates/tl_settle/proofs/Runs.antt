-- Runs in rounds: each is a list of steps, and one that is over is at the settled state.
use Rattle.tl_settle.proofs.Names.{◌≡◌, ◌≤◌, ◌<◌, ◌⊎◌, ◌≢◌, ℕ, suc, true, false, Option, None, Some, List, [], refl, sym, ap, subst, ◌∙◌, arith}
use Rattle.tl_settle.proofs.Names.{⊎_elim, slice_get, option_map_or, is_none, HeadA, HeadD, BeatOf, SideFault, more, of_prefix, extends-on, Event}
use Rattle.tl_settle.proofs.Names.{answered, asked, client_answer, manager_answer, far_a, far_d, goes_a, goes_d, settled_state, stops_a, stops_d}
use Rattle.tl_settle.proofs.Names.{Reaches, Settled, by_a, by_d, start}
use Rattle.tl_settle.proofs.Sides as sides
use Rattle.tl_settle.proofs.Manager as manager
use Rattle.tl_settle.proofs.Orders.{unmarked, ClientIs, ManagerIs}
use Rattle.tl_settle.proofs.Settles.{good, round_reaches, one_settled}
use Rattle.tl_settle.proofs.Homes.{manager_homes_are}
use Rattle.tl_settle.proofs.Grows.{far_a_grows, far_d_grows}
use Rattle.tl_settle.specs.Rounds.{ClientMoves, IsOver, IsSettledRun, ManagerMoves, Run, begins, client_accepts, client_rests, client_takes}
use Rattle.tl_settle.specs.Rounds.{manager_accepts, manager_rests, manager_takes, round}

-- the last index below suc y, or one before
last_or : (k y : ℕ) → k < suc y → (k < y) ⊎ (k ≡ y)
last_or k y h = grind arith

module _ {C M : ℕ} (near : 0 < C) (far : 0 < M) (a : List (BeatOf HeadA C)) (d : List (BeatOf HeadD M)) where
  pub record ClientDone (i j x : ℕ) (fc : List (Event C)) : Type 0 where
    pub on : i ≤ x
    pub goes : (k : ℕ) → i ≤ k → k < x → goes_a a d k j ≡ true
    pub reached : Reaches (goes_a a d) (goes_d a d) x j
    pub is : ClientIs a d x j fc

  pub client_done : (i j : ℕ) (ec : List (Event C)) (x : ℕ) (fc : List (Event C)) → Reaches (goes_a a d) (goes_d a d) i j → ClientIs a d i j ec →
      ClientMoves a d j i ec x fc → ClientDone i j x fc
  client_done i j ec x fc r c client_rests = record { on = omega arith; goes = λ k l m. absurd (omega arith); reached = r; is = c }
  client_done i j ec x fc r c (client_takes y fs b moves on) =
      let before : ClientDone i j y fs = client_done i j ec y fs r c moves in
      record {
        on = before.on;
        goes = before.goes;
        reached = before.reached;
        is = sides.client_takes near far a d y j fs b before.reached before.is (of_prefix _ _ on);
      }
  client_done i j ec x fc r c (client_accepts y fs b moves at ok) =
      let before : ClientDone i j y fs = client_done i j ec y fs r c moves in
      let step : goes_a a d y j ≡ true = sides.client_accepts near far a d y j fs b before.reached before.is at ok in
      let l = before.on in
      record {
        on = omega arith;
        goes = λ k low high. ⊎_elim (λ less. before.goes k low less) (λ (e : k ≡ y). subst (λ n. goes_a a d n j ≡ true) (sym e) step)
            (last_or k y high);
        reached = by_a y j before.reached step;
        is = sides.client_accepted near far a d y j fs b before.is at ok;
      }

  pub record ManagerDone (i j y : ℕ) (fm : List (Event M)) : Type 0 where
    pub on : j ≤ y
    pub goes : (k : ℕ) → j ≤ k → k < y → goes_d a d i k ≡ true
    pub reached : Reaches (goes_a a d) (goes_d a d) i y
    pub is : ManagerIs a d i y fm

  pub manager_done : (i j : ℕ) (em : List (Event M)) (x : ℕ) (fm : List (Event M)) → Reaches (goes_a a d) (goes_d a d) i j → ManagerIs a d i j em →
      ManagerMoves a d i j em x fm → ManagerDone i j x fm
  manager_done i j em x fm r m manager_rests = record { on = omega arith; goes = λ k l h. absurd (omega arith); reached = r; is = m }
  manager_done i j em x fm r m (manager_takes y fs b moves on) =
      let before : ManagerDone i j y fs = manager_done i j em y fs r m moves in
      record {
        on = before.on;
        goes = before.goes;
        reached = before.reached;
        is = manager.manager_takes near far a d i y fs b before.reached before.is (of_prefix _ _ on);
      }
  manager_done i j em x fm r m (manager_accepts y fs b moves at ok) =
      let before : ManagerDone i j y fs = manager_done i j em y fs r m moves in
      let step : goes_d a d i y ≡ true = manager.manager_accepts near far a d i y fs b before.reached before.is at ok in
      let l = before.on in
      record {
        on = omega arith;
        goes = λ k low high. ⊎_elim (λ less. before.goes k low less) (λ (e : k ≡ y). subst (λ n. goes_d a d i n ≡ true) (sym e) step)
            (last_or k y high);
        reached = by_d i y before.reached step;
        is = manager.manager_accepted near far a d i y fs b before.is at ok;
      }

  pub record RunIs (i j : ℕ) (ec : List (Event C)) (em : List (Event M)) : Type 0 where
    pub reached : Reaches (goes_a a d) (goes_d a d) i j
    pub client : ClientIs a d i j ec
    pub manager_is : ManagerIs a d i j em

  -- a run of rounds is a run of steps, whatever the two sides did at the same time
  pub run_is : {i j : ℕ} {ec : List (Event C)} {em : List (Event M)} → Run a d i j ec em → RunIs i j ec em
  run_is begins = record {
    reached = start;
    client = record { accepted = refl; taken = more [] (far_d a d 0); ordered = unmarked };
    manager_is = record { taken = more [] (far_a a d 0); accepted = refl; ordered = unmarked };
  }
  run_is (round i j x y ec fc em fm before client_part manager_part) =
      let b : RunIs i j ec em = run_is before in
      let c : ClientDone i j x fc = client_done i j ec x fc b.reached b.client client_part in
      let m : ManagerDone i j y fm = manager_done i j em y fm b.reached b.manager_is manager_part in
      let r : Reaches (goes_a a d) (goes_d a d) x y =
      round_reaches near far a d i j x y b.reached (record { a_on = c.on; d_on = m.on; a_goes = c.goes; d_goes = m.goes }) in
      record {
        reached = r;
        client = record {
          accepted = c.is.accepted;
          taken = extends-on c.is.taken
              (far_d_grows near far a d j y m.on (good near far a d m.reached).d_fine);
          ordered = c.is.ordered;
        };
        manager_is = record {
          taken = extends-on m.is.taken (far_a_grows near far a d i x c.on (good near far a d c.reached).a_fine);
          accepted = m.is.accepted;
          ordered = m.is.ordered;
        };
      }

  not_none : (x : Option SideFault) → x ≢ None → is_none x ≡ false
  not_none None h = absurd (h refl)
  not_none (Some x) h = refl

  a_ends : (i j : ℕ) (ec : List (Event C)) (o : Option (BeatOf HeadA C)) → slice_get a i ≡ o → Reaches (goes_a a d) (goes_d a d) i j →
      ClientIs a d i j ec →
      answered ec ≡ far_d a d j → ((b : BeatOf HeadA C) → slice_get a i ≡ Some b → client_answer ec b ≢ None) → goes_a a d i j ≡ false
  a_ends i j ec None e r c all stops = ap (λ o. option_map_or (λ x. is_none (stops_a a d i j x)) o false) e
  a_ends i j ec (Some b) e r c all stops =
      ap (λ o. option_map_or (λ x. is_none (stops_a a d i j x)) o false) e ∙
      not_none (stops_a a d i j b) (λ f. stops b e (sides.client_stops near far a d i j ec b r c all ∙ f))

  d_ends : (i j : ℕ) (em : List (Event M)) (o : Option (BeatOf HeadD M)) → slice_get d j ≡ o → Reaches (goes_a a d) (goes_d a d) i j →
      ManagerIs a d i j em →
      asked em ≡ far_a a d i → ((b : BeatOf HeadD M) → slice_get d j ≡ Some b → manager_answer em b ≢ None) → goes_d a d i j ≡ false
  d_ends i j em None e r m all stops = ap (λ o. option_map_or (λ x. is_none (stops_d a d i j x)) o false) e
  d_ends i j em (Some b) e r m all stops =
      ap (λ o. option_map_or (λ x. is_none (stops_d a d i j x)) o false) e ∙
      not_none (stops_d a d i j b) (λ f. stops b e (manager.manager_stops near far a d i j em b r m all ∙ f))

  -- a run that is over is at the settled state, and each side's last result is the one that the verdict reads
  pub over : (i j : ℕ) (ec : List (Event C)) (em : List (Event M)) → IsOver a d i j ec em → IsSettledRun a d i j ec em
  over i j ec em o =
      let r : RunIs i j ec em = run_is o.run in
      let s : Settled (goes_a a d) (goes_d a d) i j = record {
        reached = r.reached;
        a_stops = a_ends i j ec (slice_get a i) refl r.reached r.client o.d_taken o.a_stops;
        d_stops = d_ends i j em (slice_get d j) refl r.reached r.manager_is o.a_taken o.d_stops;
      } in
      let here : (i ≡ (settled_state a d).a) × (j ≡ (settled_state a d).d) = (one_settled near far a d).only i j s in
      record {
        a_there = here.0;
        d_there = here.1;
        a_answer = λ b. sides.client_stops near far a d i j ec b r.reached r.client o.d_taken;
        d_answer = λ b. manager.manager_stops near far a d i j em b r.reached r.manager_is o.a_taken;
        homes = manager_homes_are near far a d i j em r.reached r.manager_is;
      }
