-- In a run in rounds each link obeys the rules, whatever the two sides do at the same time.
use Rattle.tl_settle.proofs.Names.{◌≡◌, ◌≤◌, ◌<◌, ℕ, Some, None, List, [], ◌∷◌, ◌++◌, map, take, refl, sym, subst, arith, rules_a, rules_d, HeadA}
use Rattle.tl_settle.proofs.Names.{HeadD, BeatOf, IsBeat, IsHandedWith, Handed, IsHanded, Extends, extends-on, of_prefix, NoFaults, some_beats}
use Rattle.tl_settle.proofs.Names.{width_bounds, slice_get, Event, answered, asked, fault_after, far_a, far_d, heads, homes_after}
use Rattle.tl_settle.proofs.Names.{manager_homes, requests, responses}
use Rattle.tl_convert.proofs.Accepting.{no_faults_handed}
use Rattle.tl_convert.proofs.FarFine.{far_fine}
use Rattle.tl_convert.specs.Due.{due}
use Rattle.tl_lanes.specs.Lanes.{IsWidth}
use Rattle.tl_settle.proofs.Brings.{Known, own_homes}
use Rattle.tl_settle.proofs.ChannelFacts.{laws_a, laws_d, masked_a, masked_d}
use Rattle.tl_settle.proofs.EndsSettled.{d_handed, small_requests}
use Rattle.tl_settle.proofs.Grows.{far_a_grows, far_d_grows}
use Rattle.tl_settle.proofs.Homes.{manager_homes_are}
use Rattle.tl_settle.proofs.Links.{asks_behind, answers_behind, request_goes, response_goes}
use Rattle.tl_settle.proofs.Obeys.{Obeyed, silent, with_ask, with_answer, obeys}
use Rattle.tl_settle.specs.Obeying.{ObeysRules}
use Rattle.tl_settle.proofs.Runs.{ClientDone, ManagerDone, RunIs, client_done, manager_done, run_is}
use Rattle.tl_settle.proofs.Settles.{good}
use Rattle.tl_settle.specs.Rounds.{ClientMoves, ManagerMoves, Run, begins, client_accepts, client_rests, client_takes, manager_accepts, manager_rests}
use Rattle.tl_settle.specs.Rounds.{manager_takes, round}

module _ {C M : ℕ} (cw : IsWidth C) (mw : IsWidth M) (a : List (BeatOf HeadA C)) (d : List (BeatOf HeadD M)) where
  near : 0 < C
  near = (width_bounds C cw).0

  far : 0 < M
  far = (width_bounds M mw).0

  abbrev pub a_homes : ℕ → List ℕ
  a_homes i = map (λ h. h.address) (requests a d i)

  abbrev pub d_homes : ℕ → List ℕ
  d_homes j = homes_after (heads rules_a C a) [] (responses a d j)

  -- i beats of A and j of D were accepted at the end, which are handed
  module _ (i j : ℕ) (fine_a : NoFaults rules_a a i) (fine_d : NoFaults rules_d d j) (handed_a : IsHandedWith rules_a (take i a) (a_homes i))
      (handed_d : IsHandedWith rules_d (take j d) (d_homes j))
    where
      -- a far beat that was taken before has no fault at its place
      fine_there_a : (k : ℕ) → k ≤ i → (taken : List (BeatOf HeadA M)) (b : BeatOf HeadA M) → Extends (taken ++ b ∷ []) (far_a a d k) →
          fault_after rules_a taken b ≡ None
      fine_there_a k l taken b on =
          far_fine rules_a laws_a masked_a cw mw (take i a) (a_homes i) handed_a taken b (extends-on on (far_a_grows near far a d k i l fine_a))

      fine_there_d : (k : ℕ) → k ≤ j → (taken : List (BeatOf HeadD C)) (b : BeatOf HeadD C) → Extends (taken ++ b ∷ []) (far_d a d k) →
          fault_after rules_d taken b ≡ None
      fine_there_d k l taken b on =
          far_fine rules_d laws_d masked_d mw cw (take j d) (d_homes j) handed_d taken b (extends-on on (far_d_grows near far a d k j l fine_d))

      module _ (x y : ℕ) (ec : List (Event C)) (em : List (Event M)) (r : RunIs near far a d x y ec em) (oc : Obeyed ec) (om : Obeyed em) (x_in : x ≤ i)
          (y_in : y ≤ j)
        where
          client_obeys : (z : ℕ) (fc : List (Event C)) → ClientMoves a d y x ec z fc → Obeyed fc
          client_obeys z fc client_rests = oc
          client_obeys z fc (client_accepts k fs b moves at ok) = with_ask fs b (client_obeys k fs moves) ok
          client_obeys z fc (client_takes k fs b moves on) =
              let done : ClientDone near far a d x y k fs = client_done near far a d x y ec k fs r.reached r.client moves in
              let seen : Extends (asked em) (far_a a d k) =
              extends-on r.manager_is.taken (far_a_grows near far a d x k done.on (good near far a d done.reached).a_fine) in
              let next : Extends (answered fs ++ b ∷ []) (far_d a d y) = of_prefix _ _ on in
              with_answer fs b (client_obeys k fs moves)
              (response_goes cw mw (client_obeys k fs moves) om b
              (fine_there_d y y_in (answered fs) b next)
              (asks_behind cw mw fs (a_homes k) (client_obeys k fs moves)
              (subst (λ bs. Extends (asked em) (due rules_a C M bs (a_homes k))) (sym done.is.accepted) seen))
              (answers_behind cw mw em (d_homes y) om
              (subst (λ bs. Extends (answered fs ++ b ∷ []) (due rules_d M C bs (d_homes y))) (sym r.manager_is.accepted) next)))

          manager_obeys : (z : ℕ) (fm : List (Event M)) → ManagerMoves a d x y em z fm → Obeyed fm
          manager_obeys z fm manager_rests = om
          manager_obeys z fm (manager_accepts k fs b moves at ok) = with_answer fs b (manager_obeys k fs moves) ok
          manager_obeys z fm (manager_takes k fs b moves on) =
              let done : ManagerDone near far a d x y k fs = manager_done near far a d x y em k fs r.reached r.manager_is moves in
              let seen : Extends (answered ec) (far_d a d k) =
              extends-on r.client.taken (far_d_grows near far a d y k done.on (good near far a d done.reached).d_fine) in
              let next : Extends (asked fs ++ b ∷ []) (far_a a d x) = of_prefix _ _ on in
              with_ask fs b (manager_obeys k fs moves)
              (request_goes cw mw oc (manager_obeys k fs moves) b
              (fine_there_a x x_in (asked fs) b next)
              (asks_behind cw mw ec (a_homes x) oc
              (subst (λ bs. Extends (asked fs ++ b ∷ []) (due rules_a C M bs (a_homes x))) (sym r.client.accepted) next))
              (answers_behind cw mw fs (d_homes k) (manager_obeys k fs moves)
              (subst (λ bs. Extends (answered ec) (due rules_d M C bs (d_homes k))) (sym done.is.accepted) seen)))

      obeyed_so_far : {x y : ℕ} {ec : List (Event C)} {em : List (Event M)} → x ≤ i → y ≤ j → Run a d x y ec em → Obeyed ec × Obeyed em
      obeyed_so_far x_in y_in begins = (silent, silent)
      obeyed_so_far x_in y_in (round x y x' y' ec fc em fm before client_part manager_part) =
          let r : RunIs near far a d x y ec em = run_is near far a d before in
          let c : ClientDone near far a d x y x' fc = client_done near far a d x y ec x' fc r.reached r.client client_part in
          let m : ManagerDone near far a d x y y' fm = manager_done near far a d x y em y' fm r.reached r.manager_is manager_part in
          let c_on : x ≤ x' = c.on in
          let m_on : y ≤ y' = m.on in
          let x_before : x ≤ i = omega arith in
          let y_before : y ≤ j = omega arith in
          let o = obeyed_so_far x_before y_before before in (
            client_obeys x y ec em r o.0 o.1 x_before y_before x' fc client_part,
            manager_obeys x y ec em r o.0 o.1 x_before y_before y' fm manager_part,
          )

  -- the accepted beats are handed, with the homes that each side gave: so each link obeys the rules
  pub run_obeys : {i j : ℕ} {ec : List (Event C)} {em : List (Event M)} → Run a d i j ec em →
      IsHandedWith rules_a (asked ec) (map (λ h. h.address) (heads rules_a C (asked ec))) → IsHandedWith rules_d (answered em) (manager_homes em) →
      ObeysRules ec × ObeysRules em
  run_obeys {i} {j} {ec} {em} run handed_a handed_d =
      let r : RunIs near far a d i j ec em = run_is near far a d run in
      let o = obeyed_so_far i j (good near far a d r.reached).a_fine (good near far a d r.reached).d_fine
      (subst (λ bs. IsHandedWith rules_a bs (map (λ h. h.address) (heads rules_a C bs))) r.client.accepted handed_a)
      (subst (λ hs. IsHandedWith rules_d (take j d) hs) (manager_homes_are near far a d i j em r.reached r.manager_is)
      (subst (λ bs. IsHandedWith rules_d bs (manager_homes em)) r.manager_is.accepted handed_d))
      (omega arith) (omega arith) run in
      (obeys o.0, obeys o.1)

  -- the same for beats that memory can hold
  module _ (on_a : Known rules_a C M) (on_d : Known rules_d M C) (beats_a : (k : ℕ) (b : BeatOf HeadA C) → slice_get a k ≡ Some b → IsBeat rules_a b)
      (beats_d : (k : ℕ) (b : BeatOf HeadD M) → slice_get d k ≡ Some b → IsBeat rules_d b)
    where
      pub beats_obey : {i j : ℕ} {ec : List (Event C)} {em : List (Event M)} → Run a d i j ec em → ObeysRules ec × ObeysRules em
      beats_obey {i} {j} {ec} {em} run =
          let r : RunIs near far a d i j ec em = run_is near far a d run in
          let h : IsHanded rules_a (take i a) = no_faults_handed rules_a on_a.exact a beats_a i (good near far a d r.reached).a_fine in
          let handed : Handed rules_a C (take i a) (a_homes i) h.messages h.rest =
          subst (λ hs. Handed rules_a C (take i a) hs h.messages h.rest) (own_homes rules_a (some_beats rules_a C near) (λ x y. refl) h.handed)
          h.handed in
          let here : IsHandedWith rules_a (take i a) (a_homes i) = (h.messages, h.rest, handed) in
          let there : IsHandedWith rules_d (take j d) (d_homes j) =
          d_handed on_d (heads rules_a C a) (small_requests near far a d on_a on_d beats_a beats_d) d beats_d j
          (good near far a d r.reached).d_fine in
          run_obeys run
          (subst (λ bs. IsHandedWith rules_a bs (map (λ h. h.address) (heads rules_a C bs))) (sym r.client.accepted) here)
          (subst (λ bs. IsHandedWith rules_d bs (manager_homes em)) (sym r.manager_is.accepted)
          (subst (λ hs. IsHandedWith rules_d (take j d) hs) (sym (manager_homes_are near far a d i j em r.reached r.manager_is)) there))
