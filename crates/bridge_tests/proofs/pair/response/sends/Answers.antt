use Rattle.std.specs.Prelude.{ℕ, Bool, true, false, cond, Option, None, Some, [], ◌∷◌, if◌then◌else◌}
use Rattle.std.specs.Option.{option_map_or}
use Rattle.std.proofs.Common.{◌≡◌, refl, ap, ◌∙◌}
use Rattle.tl_msg.specs.Tables.{rules_d}
use Rattle.tl_msg.specs.declared.head.HeadA.{HeadA}
use Rattle.tl_msg.specs.declared.head.HeadD.{HeadD}
use Rattle.tl_msg.specs.declared.beat.BeatOf.{BeatOf}
use Rattle.tl_msg.specs.declared.fault.BeatFault.{BeatFault}
use Rattle.tl_msg.specs.declared.fault.SideFault.{SideFault}
use Rattle.tl_msg.specs.declared.fault.SideFault.TheVariants.{Beat}
use Rattle.tl_burst.specs.Handing.{fault_after}
use Rattle.tl_settle.specs.Histories.{Ask, manager_answer, manager_home, to_request}
use Rattle.tl_settle.specs.Requests.{is_request_of, is_release_ack}
use Rattle.tl_sides.specs.Sides.{new_manager, manager_takes_a}
use Rattle.bridge_tests.proofs.pair.response.sends.Goals as goal

-- the parts of `manager_answer`, for a beat that is accepted
no-fault : (fault : Option BeatFault) (rest : Option SideFault) → option_map_or (λ f. Some (Beat f)) fault rest ≡ None → rest ≡ None
no-fault None rest e = e
no-fault (Some f) rest e = cc

no-release : (ack : Bool) (rest : Option SideFault) → ack ≡ false → (if ack then None else rest) ≡ None → rest ≡ None
no-release false rest not e = e
no-release true rest not e = cc

opened : (is : Bool) (q : HeadA) (h : HeadD) → to_request (cond is (Some q) None) h ≡ None →
    option_map_or (λ q. q.address) (cond is (Some q) None) 0 ≡ q.address
opened true q h e = refl
opened false q h e = cc

not-released : (ack : Bool) (home : ℕ) → ack ≡ false → cond ack 0 home ≡ home
not-released false home not = refl
not-released true home not = cc

-- the home of the first response is the address of the request before it
home-is : {w : ℕ} (q : BeatOf HeadA w) (r : BeatOf HeadD w) → is_release_ack r.head ≡ false → manager_answer (Ask q ∷ []) r ≡ None →
    manager_home (Ask q ∷ []) r.head ≡ q.head.address
home-is q r not fine =
    not-released (is_release_ack r.head) _ not ∙ opened (is_request_of r.head.source q.head) q.head r.head
    (no-release (is_release_ack r.head) _ not (no-fault (fault_after rules_d [] r) _ fine))

-- the past of a side that has taken a request and sent a response
pub returns-in-Ok-clause-sent : goal.returns-in-Ok-clause-sent
returns-in-Ok-clause-sent c = λ request taken accepted.
    let stands = c.pump.ensures.stands _ (c.in-Ok.ensures.accepted (manager_takes_a (request ∷ []) (new_manager 1)) taken) in (
      _,
      stands,
      refl,
      ap (λ home. home ∷ []) (home-is request c.args.response c.requires.response (stands.responses (Ask request ∷ []) [] c.args.response refl)),
    )
