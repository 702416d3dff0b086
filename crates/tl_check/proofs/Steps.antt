-- The effect of an offered beat of A or D on both sides, after each has taken all due beats.
use Rattle.tl_check.proofs.Names.{◌≡◌, ◌<◌, ◌+◌, ◌++◌, ℕ, suc, Option, None, Some, List, true, [], ◌∷◌, length, map, take, refl, sym, ap, subst}
use Rattle.tl_check.proofs.Names.{◌∙◌, ◌↔◌, Result, Ok, Err, IsOk, IfOk, IfErr, arith, append-nil, length-append, slice_get}
use Rattle.tl_check.proofs.Names.{IsWidth, Rules, rules_a, rules_d, HeadA}
use Rattle.tl_check.proofs.Names.{HeadD, BeatOf, SideFault, heads, fault_after, fault_in, due, Ask, Answer, asked}
use Rattle.tl_check.proofs.Names.{answered, client_answer, manager_answer, requests, responses, far_a, far_d, stops_a}
use Rattle.tl_check.proofs.Names.{stops_d, Client, Manager, KnowsClient, KnowsManager, IsChecked, AreAt, HasCome, HaveHead}
use mathlib.Core.List.{IsPrefix}
use Rattle.tl_lanes.proofs.Widths.{width_bounds}
use Rattle.tl_msg.specs.declared.fault.BeatFault.{BeatFault}
use Rattle.tl_burst.specs.Tracking.{IsPlace, IsPlaceOf}
use Rattle.tl_burst.specs.declared.place.Place.{Place}
use Rattle.tl_convert.proofs.Extends.{Extends, more, take-next}
use Rattle.tl_settle.specs.Requests.{homes_after}
use Rattle.tl_settle.specs.Rounds.{Run, round, ManagerMoves, ClientMoves, client_rests, client_accepts, manager_rests, manager_accepts}
use Rattle.tl_settle.proofs.Grows.{far_a_grows, far_d_grows}
use Rattle.tl_settle.proofs.Manager.{manager_stops}
use Rattle.tl_settle.proofs.Marks.{asked_answer, asked_ask, answered_answer, answered_ask}
use Rattle.tl_settle.proofs.Runs.{RunIs, run_is}
use Rattle.tl_settle.proofs.SameHeads.{same_a, same_d}
use Rattle.tl_settle.proofs.Settles.{good}
use Rattle.tl_settle.proofs.Sides.{client_stops}
use Rattle.tl_parts.proofs.Takes.{client-takes-all, manager-takes-all, seen-all}
use Rattle.tl_check.proofs.NewHeads.{new-heads}
use Rattle.tl_check.proofs.Passing.{place-of}

-- the rest of a list after another one
rest-of : {A : Type 0} {xs ys : List A} → Extends xs ys → IsPrefix xs ys
rest-of (more xs rest) = (rest, refl)

-- the facts that a check shows about the unfinished burst hold for the beats that a side has accepted
checked-after : {H K : Type 0} (r : Rules H) {w v : ℕ} (bs accepted : List (BeatOf H w)) (burst : Option (H × ℕ)) (at far : ℕ) (b : BeatOf H w)
    (checked : Result (Place K H) BeatFault) → HasCome r v bs burst at far → accepted ≡ take at bs → IsOk checked ↔ (fault_in r burst b ≡ None) →
    IfErr checked (λ fault. fault_in r burst b ≡ Some fault) → IfOk checked (λ place. place.head ≡ b.head) → IfOk checked (IsPlace r w burst) →
    IsChecked r accepted b checked
checked-after {K = K} r bs accepted burst at far b (Err fault) come same fine stops head is =
    subst (λ q. IsChecked {K = K} r q b (Err fault)) (sym same) (record {
      place = tt;
      fault = ap (λ q. fault_in r q b) (sym come.burst_is) ∙ stops;
    })
checked-after {K = K} r {w} bs accepted burst at far b (Ok place) come same fine stops head is =
    subst (λ q. IsChecked {K = K} r q b (Ok place)) (sym same) (record {
      place = record {
        handed = come.handed;
        is_place = subst (λ q. IsPlaceOf r w q b place) come.burst_is (place-of r burst b place (fine.0 refl) head is);
      };
      fault = tt;
    })

-- the far beats that an accepted beat makes due after those before, whatever the homes are
module _ {H : Type 0} (r : Rules H) (w v : ℕ) (bs : List (BeatOf H w)) (at : ℕ) (b : BeatOf H w) (burst : Option (H × ℕ)) (far : ℕ)
    (before : HasCome r v bs burst at far) (homes : ℕ → List ℕ)
    (new : IsPrefix (due r w v (take at bs) (homes at)) (due r w v (take (suc at) bs) (homes (suc at)))) where
  -- as many far beats as were counted
  new-count : (burst' : Option (H × ℕ)) (n far' given : ℕ) → n ≡ suc at → far' ≡ far + given → HasCome r v bs burst' n far' → length new.0 ≡ given
  new-count burst' n far' given later many after =
      let x : far ≡ length (due r w v (take at bs) (homes at)) = before.far_is (homes at) in
      let y : far' ≡ length (due r w v (take (suc at) bs) (homes (suc at))) =
      subst (λ k. far' ≡ length (due r w v (take k bs) (homes k))) later (after.far_is (homes n)) in
      let z : length (due r w v (take at bs) (homes at) ++ new.0) ≡ length (due r w v (take (suc at) bs) (homes (suc at))) = ap length new.1 in
      let u = length-append (due r w v (take at bs) (homes at)) new.0 in
      omega arith

  -- each with the beat's head
  new-have : ((x y : H) → r.same x y ≡ true → x ≡ y) → 0 < w → 0 < v → slice_get bs at ≡ Some b → fault_after r (take at bs) b ≡ None →
      HaveHead b.head new.0
  new-have exact w_some v_some next fine =
      new-heads r exact w v w_some v_some (take at bs) b (homes (suc at)) (due r w v (take at bs) (homes at)) new.0 fine
      (sym (before.far_is (homes at)) ∙ before.far_is (homes (suc at)))
      (ap (λ q. due r w v q (homes (suc at))) (sym (take-next bs at b next)) ∙ sym new.1)

module _ {C M : ℕ} (cw : IsWidth C) (mw : IsWidth M) (a : List (BeatOf HeadA C)) (d : List (BeatOf HeadD M)) (i j : ℕ) (client : Client)
    (manager : Manager)
    (s : AreAt a d i j client manager) where
  c_some : 0 < C
  c_some = (width_bounds C cw).0

  m_some : 0 < M
  m_some = (width_bounds M mw).0

  here : RunIs c_some m_some a d i j s.client_history s.manager_history
  here = run_is c_some m_some a d s.run

  -- ---- the client's side offers a beat of A

  module _ (b : BeatOf HeadA C) where
    pub ask-checked : {K : Type 0} (burst : Option (HeadA × ℕ)) (far : ℕ) (checked : Result (Place K HeadA) BeatFault) →
        HasCome rules_a M a burst i far →
        IsOk checked ↔ (fault_in rules_a burst b ≡ None) → IfErr checked (λ fault. fault_in rules_a burst b ≡ Some fault) →
        IfOk checked (λ place. place.head ≡ b.head) → IfOk checked (IsPlace rules_a C burst) → IsChecked rules_a (asked s.client_history) b checked
    ask-checked burst far checked come = checked-after rules_a a (asked s.client_history) burst i far b checked come here.client.accepted

    -- the result of its book is the reason why the beat is refused
    pub ask-stops : (fault : SideFault) → client_answer s.client_history b ≡ Some fault → stops_a a d i j b ≡ Some fault
    ask-stops fault e = sym (client_stops c_some m_some a d i j s.client_history b here.reached here.client s.d_taken) ∙ e

    -- the beat is accepted, and the manager's side takes what it makes due
    module _ (next : slice_get a i ≡ Some b) (ok : client_answer s.client_history b ≡ None) (fine : fault_after rules_a (take i a) b ≡ None)
        (burst burst' : Option (HeadA × ℕ)) (far n far' given : ℕ) (one : n ≡ i + 1) (many : far' ≡ far + given)
        (before : HasCome rules_a M a burst i far) (after : HasCome rules_a M a burst' n far')
        (client' : Client) (knows : KnowsClient client' (s.client_history ++ Ask b ∷ [])) (manager' : Manager)
        (noted : (bs : List (BeatOf HeadA M)) → length bs ≡ given → HaveHead b.head bs →
        KnowsManager manager' (s.manager_history ++ map Ask bs)) where
      later-a : n ≡ suc i
      later-a = omega (arith, one)

      asked-run : Run a d (suc i) j (s.client_history ++ Ask b ∷ []) s.manager_history
      asked-run =
          round i j (suc i) j s.client_history (s.client_history ++ Ask b ∷ []) s.manager_history s.manager_history s.run
          (client_accepts i s.client_history b client_rests next ok) manager_rests

      new-asks : IsPrefix (far_a a d i) (far_a a d (suc i))
      new-asks =
          let there : RunIs c_some m_some a d (suc i) j (s.client_history ++ Ask b ∷ []) s.manager_history = run_is c_some m_some a d asked-run in
          rest-of (far_a_grows c_some m_some a d i (suc i) (omega arith) (good c_some m_some a d there.reached).a_fine)

      abbrev asked-homes : (k : ℕ) → List ℕ
      asked-homes k = map (λ h. h.address) (requests a d k)

      new-asks-count : length new-asks.0 ≡ given
      new-asks-count = new-count rules_a C M a i b burst far before asked-homes new-asks burst' n far' given later-a many after

      new-asks-have : HaveHead b.head new-asks.0
      new-asks-have = new-have rules_a C M a i b burst far before asked-homes new-asks same_a c_some m_some next fine

      pub ask-accepted : AreAt a d n j client' manager'
      ask-accepted =
          let on : asked s.manager_history ++ new-asks.0 ≡ far_a a d (suc i) = ap (λ q. q ++ new-asks.0) s.a_taken ∙ new-asks.1 in
          let moves : ManagerMoves a d (suc i) j s.manager_history j (s.manager_history ++ map Ask new-asks.0) =
          manager-takes-all a d (suc i) j s.manager_history j s.manager_history new-asks.0 manager_rests ([], append-nil _ ∙ on) in
          subst (λ k. AreAt a d k j client' manager') (sym later-a) (record {
            client_history = s.client_history ++ Ask b ∷ [];
            manager_history = s.manager_history ++ map Ask new-asks.0;
            client_knows = knows;
            manager_knows = noted new-asks.0 new-asks-count new-asks-have;
            run = round (suc i) j (suc i) j (s.client_history ++ Ask b ∷ []) (s.client_history ++ Ask b ∷ [])
                s.manager_history (s.manager_history ++ map Ask new-asks.0) asked-run client_rests moves;
            a_taken = seen-all Ask asked asked_ask s.manager_history new-asks.0 ∙ on;
            d_taken = answered_ask s.client_history b ∙ s.d_taken;
          })

  -- ---- the manager's side offers a beat of D

  module _ (b : BeatOf HeadD M) where
    pub answer-checked : {K : Type 0} (burst : Option (HeadD × ℕ)) (far : ℕ) (checked : Result (Place K HeadD) BeatFault) →
        HasCome rules_d C d burst j far →
        IsOk checked ↔ (fault_in rules_d burst b ≡ None) → IfErr checked (λ fault. fault_in rules_d burst b ≡ Some fault) →
        IfOk checked (λ place. place.head ≡ b.head) → IfOk checked (IsPlace rules_d M burst) →
        IsChecked rules_d (answered s.manager_history) b checked
    answer-checked burst far checked come = checked-after rules_d d (answered s.manager_history) burst j far b checked come here.manager_is.accepted

    -- the result of its book is the reason why the beat is refused
    pub answer-stops : (fault : SideFault) → manager_answer s.manager_history b ≡ Some fault → stops_d a d i j b ≡ Some fault
    answer-stops fault e = sym (manager_stops c_some m_some a d i j s.manager_history b here.reached here.manager_is s.a_taken) ∙ e

    -- the beat is accepted, and the client's side takes what it makes due
    module _ (next : slice_get d j ≡ Some b) (ok : manager_answer s.manager_history b ≡ None) (fine : fault_after rules_d (take j d) b ≡ None)
        (burst burst' : Option (HeadD × ℕ)) (far n far' given : ℕ) (one : n ≡ j + 1) (many : far' ≡ far + given)
        (before : HasCome rules_d C d burst j far) (after : HasCome rules_d C d burst' n far')
        (manager' : Manager) (knows : KnowsManager manager' (s.manager_history ++ Answer b ∷ [])) (client' : Client)
        (noted : (bs : List (BeatOf HeadD C)) → length bs ≡ given → HaveHead b.head bs →
        KnowsClient client' (s.client_history ++ map Answer bs)) where
      later-d : n ≡ suc j
      later-d = omega (arith, one)

      answered-run : Run a d i (suc j) s.client_history (s.manager_history ++ Answer b ∷ [])
      answered-run =
          round i j i (suc j) s.client_history s.client_history s.manager_history (s.manager_history ++ Answer b ∷ []) s.run
          client_rests (manager_accepts j s.manager_history b manager_rests next ok)

      new-answers : IsPrefix (far_d a d j) (far_d a d (suc j))
      new-answers =
          let there : RunIs c_some m_some a d i (suc j) s.client_history (s.manager_history ++ Answer b ∷ []) =
          run_is c_some m_some a d answered-run in
          rest-of (far_d_grows c_some m_some a d j (suc j) (omega arith) (good c_some m_some a d there.reached).d_fine)

      abbrev answered-homes : (k : ℕ) → List ℕ
      answered-homes k = homes_after (heads rules_a C a) [] (responses a d k)

      new-answers-count : length new-answers.0 ≡ given
      new-answers-count = new-count rules_d M C d j b burst far before answered-homes new-answers burst' n far' given later-d many after

      new-answers-have : HaveHead b.head new-answers.0
      new-answers-have = new-have rules_d M C d j b burst far before answered-homes new-answers same_d m_some c_some next fine

      pub answer-accepted : AreAt a d i n client' manager'
      answer-accepted =
          let on : answered s.client_history ++ new-answers.0 ≡ far_d a d (suc j) = ap (λ q. q ++ new-answers.0) s.d_taken ∙ new-answers.1 in
          let moves : ClientMoves a d (suc j) i s.client_history i (s.client_history ++ map Answer new-answers.0) =
          client-takes-all a d (suc j) i s.client_history i s.client_history new-answers.0 client_rests ([], append-nil _ ∙ on) in
          subst (λ k. AreAt a d i k client' manager') (sym later-d) (record {
            client_history = s.client_history ++ map Answer new-answers.0;
            manager_history = s.manager_history ++ Answer b ∷ [];
            client_knows = noted new-answers.0 new-answers-count new-answers-have;
            manager_knows = knows;
            run = round i (suc j) i (suc j) s.client_history (s.client_history ++ map Answer new-answers.0)
                (s.manager_history ++ Answer b ∷ []) (s.manager_history ++ Answer b ∷ []) answered-run moves manager_rests;
            a_taken = asked_answer s.manager_history b ∙ s.a_taken;
            d_taken = seen-all Answer answered answered_answer s.client_history new-answers.0 ∙ on;
          })
