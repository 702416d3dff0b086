-- What a meeting shows of one request and its response.
use Rattle.std.specs.Prelude.{ℕ, Bool, true, false, cond, Option, None, Some, List, [], ◌∷◌, length, if◌then◌else◌}
use Rattle.std.specs.Option.{option_map_or}
use Rattle.std.proofs.Common.{◌≡◌, ◌+◌, ◌++◌, length-append, refl, sym, ap, ◌∙◌, subst, arith}
use Rattle.tl_msg.specs.Tables.{rules_d}
use Rattle.tl_msg.specs.declared.head.HeadA.{HeadA}
use Rattle.tl_msg.specs.declared.head.HeadD.{HeadD}
use Rattle.tl_msg.specs.declared.beat.BeatOf.{BeatOf}
use Rattle.tl_msg.specs.declared.fault.BeatFault.{BeatFault}
use Rattle.tl_msg.specs.declared.fault.SideFault.{SideFault}
use Rattle.tl_msg.specs.declared.fault.SideFault.TheVariants.{Beat}
use Rattle.tl_burst.specs.Handing.{fault_after}
use Rattle.tl_convert.specs.Due.{due}
use Rattle.tl_ring.specs.Ends.{known_items}
use Rattle.tl_settle.specs.Histories.{Ask, Answer, answered, manager_answer, manager_home, manager_homes, to_request}
use Rattle.tl_settle.specs.Obeying.{ResponsesObey}
use Rattle.tl_settle.specs.Requests.{is_request_of, is_release_ack}
use Rattle.tl_sides.specs.Sides.{ClientPast, ManagerPast}
use Rattle.tl_c_beats.specs.declared.counts.ChannelCounts.{ChannelCounts}
use Rattle.tl_c.specs.declared.held.ClientHeld.{ClientHeld}
use Rattle.tl_c.specs.declared.held.ManagerHeld.{ManagerHeld}
use Rattle.tl_c.specs.declared.widths.TheConstants.{CLIENT, MANAGER}
use Rattle.tl_c.specs.Calls.{HaveMet, AreCounted}

-- the parts of `manager_answer`, of a beat that is accepted
no_fault : (fault : Option BeatFault) (rest : Option SideFault) → option_map_or (λ f. Some (Beat f)) fault rest ≡ None → rest ≡ None
no_fault None rest e = e
no_fault (Some f) rest e = cc

no_release : (ack : Bool) (rest : Option SideFault) → ack ≡ false → (if ack then None else rest) ≡ None → rest ≡ None
no_release false rest not e = e
no_release true rest not e = cc

opened : (is : Bool) (q : HeadA) (h : HeadD) → to_request (cond is (Some q) None) h ≡ None →
    option_map_or (λ q. q.address) (cond is (Some q) None) 0 ≡ q.address
opened true q h e = refl
opened false q h e = cc

not_released : (ack : Bool) (home : ℕ) → ack ≡ false → cond ack 0 home ≡ home
not_released false home not = refl
not_released true home not = cc

-- the home of the first response is the address of the request before it
home_is : {w : ℕ} (q : BeatOf HeadA w) (r : BeatOf HeadD w) → is_release_ack r.head ≡ false → manager_answer (Ask q ∷ []) r ≡ None →
    manager_home (Ask q ∷ []) r.head ≡ q.head.address
home_is q r not fine =
    not_released (is_release_ack r.head) _ not ∙ opened (is_request_of r.head.source q.head) q.head r.head
    (no_release (is_release_ack r.head) _ not (no_fault (fault_after rules_d [] r) _ fine))

pub homes_are : {w : ℕ} (q : BeatOf HeadA w) (r : BeatOf HeadD w) → is_release_ack r.head ≡ false → ResponsesObey (Ask q ∷ Answer r ∷ []) →
    manager_homes (Ask q ∷ Answer r ∷ []) ≡ q.head.address ∷ []
homes_are q r not obey = ap (λ home. home ∷ []) (home_is q r not (obey (Ask q ∷ []) [] r refl))

in_three : {X : Type 0} (inbox ring stage : List X) → length ((inbox ++ ring) ++ stage) ≡ length stage + length ring + length inbox
in_three inbox ring stage =
    let both = length-append (inbox ++ ring) stage in
    let front = length-append inbox ring in
    omega (arith, both, front)

pub shown : (s : Option ClientHeld) (t : Option ManagerHeld) (counts : ChannelCounts) (x : ClientPast CLIENT MANAGER) (y : ManagerPast CLIENT MANAGER)
    (asked : BeatOf HeadA CLIENT) (first : BeatOf HeadD CLIENT) (request : BeatOf HeadA MANAGER) (response : BeatOf HeadD MANAGER) →
    x.history ≡ Ask asked ∷ Answer first ∷ [] → y.history ≡ Ask request ∷ Answer response ∷ [] → is_release_ack response.head ≡ false →
    HaveMet s t x y → AreCounted s t counts →
    (under_way : List (BeatOf HeadD CLIENT)) ×
    (first ∷ under_way ≡ due rules_d MANAGER CLIENT (response ∷ []) (request.head.address ∷ [])) ×
    (length under_way ≡ counts.d.staged + counts.d.in_ring + counts.d.inbox)
shown None t counts x y asked first request response xs ys not met counted = absurd met
shown (Some s) None counts x y asked first request response xs ys not met counted = absurd met
shown (Some s) (Some t) counts x y asked first request response xs ys not met counted =
    let manager = met.meets.manager in
    let d = met.meets.d in
    let inbox = s.side.d.inbox in
    let ring = known_items s.side.d in
    let stage = t.side.d.stage in
    let taken : answered x.history ≡ first ∷ [] = ap answered xs in
    let accepted : y.d.accepted ≡ response ∷ [] = sym manager.accepted ∙ ap answered ys in
    let homes : y.d.homes ≡ request.head.address ∷ [] =
    sym manager.homes ∙ ap manager_homes ys ∙ homes_are request response not (subst ResponsesObey ys manager.responses) in
    let layout : due rules_d MANAGER CLIENT y.d.accepted y.d.homes ≡ due rules_d MANAGER CLIENT (response ∷ []) (request.head.address ∷ []) =
    λ i. due rules_d MANAGER CLIENT (accepted i) (homes i) in
    let three = in_three inbox ring stage in
    let staged : counts.d.staged ≡ length stage = ap (λ n. n.d.staged) counted in
    let in_ring : counts.d.in_ring ≡ length ring = ap (λ n. n.d.in_ring) counted in
    let in_inbox : counts.d.inbox ≡ length inbox = ap (λ n. n.d.inbox) counted in (
      (inbox ++ ring) ++ stage,
      ap (λ q. (first ∷ (inbox ++ ring)) ++ q) d.sends.pipe.stage ∙ ap (λ bs. ((bs ++ inbox) ++ ring) ++ y.d.stage) (sym taken) ∙ d.crosses.beats ∙ layout,
      three ∙ sym (omega (arith, staged, in_ring, in_inbox)),
    )
