-- A channel advances by an accepted beat, and its end.
use Rattle.tl_check.proofs.Names.{◌≡◌, ◌≢◌, ◌≤◌, ◌<◌, ◌+◌, ◌++◌, ℕ, Bool, Option, None, Some, List, [], ◌∷◌, length, map, take, get_or, refl, sym, ap}
use Rattle.tl_check.proofs.Names.{subst, ◌∙◌, arith, zero-le, append_assoc, slice_get_within, slice_get_past, get_or_from_slice_get}
use Rattle.tl_check.proofs.Names.{◌==◌, slice_get, if◌then◌else◌, option_map_or, IsWidth, Rules, BeatOf, SideFault, heads, left, IsHanded, nothing}
use Rattle.tl_check.proofs.Names.{rest_of, burst_of, burst_after, fault_in, fault_after, due, verdict_of, far_alone, verdict_alone, HasCome}
use Rattle.std.proofs.lemmas.List.{length-take-le, map-append, take_more}
use Rattle.tl_msg.specs.declared.fault.BeatFault.{BeatFault}
use Rattle.tl_msg.specs.declared.fault.SideFault.TheVariants.{Beat}
use Rattle.tl_msg.specs.declared.verdict.Verdict.{Verdict}
use Rattle.tl_msg.specs.declared.verdict.Verdict.TheVariants.{Done, Cut}
use Rattle.tl_burst.specs.Messages.{beats_of}
use Rattle.tl_burst.specs.Tracking.{IsPlace, IsPlaceOf, count_in}
use Rattle.tl_burst.specs.declared.place.Place.{Place}
use Rattle.tl_burst.proofs.BegunMessages.{left-zero}
use Rattle.tl_burst.proofs.Steps.{count-of}
use Rattle.tl_convert.specs.Accepted.{accepted_of}
use Rattle.tl_convert.specs.Counting.{Gives}
use Rattle.tl_convert.proofs.Comparisons.{equal_true, not_equal}
use Rattle.tl_convert.proofs.CountLoop.{accepted-all, accepted-next, accepted-stop, due-count, one-more}

-- a side has noted one beat more
pub next-noted : {E B : Type 0} (note : B → E) (es : List E) (bs : List B) (i : ℕ) (b : B) → i < length bs → b ≡ get_or bs i b →
    (es ++ map note (take i bs)) ++ note b ∷ [] ≡ es ++ map note (take (i + 1) bs)
next-noted note es bs i b lt is =
    append_assoc es (map note (take i bs)) (note b ∷ []) ∙ ap (λ q. es ++ q) (sym (map-append note (take i bs) (b ∷ [])) ∙
    ap (λ q. map note q) (sym (take_more bs i b lt ∙ ap (λ y. take i bs ++ y ∷ []) (sym is))))

-- an accepted beat is at the place that its check returns
pub place-of : {H K : Type 0} (r : Rules H) {w : ℕ} (burst : Option (H × ℕ)) (b : BeatOf H w) (place : Place K H) → fault_in r burst b ≡ None →
    place.head ≡ b.head → IsPlace r w burst place → IsPlaceOf r w burst b place
place-of r {w} burst b place fine head is = record {
  accepted = fine;
  head = head;
  index = is.index;
  last = subst (λ h. place.last ≡ (place.index + 1 == beats_of r h w)) head is.last;
}

module _ {H : Type 0} (r : Rules H) {w : ℕ} where
  -- whether there is an open burst
  none-open : (rest : List (BeatOf H w)) → burst_of r rest ≡ None → rest ≡ []
  none-open [] e = refl
  none-open (b ∷ rest) e = cc

  some-open : (rest : List (BeatOf H w)) (burst : H × ℕ) → burst_of r rest ≡ Some burst → rest ≢ []
  some-open [] burst e = cc
  some-open (b ∷ rest) burst e = λ f. cc

module _ {H : Type 0} (r : Rules H) {w v : ℕ} where
  -- a channel that has accepted nothing
  pub come-start : (bs : List (BeatOf H w)) (burst : Option (H × ℕ)) → burst ≡ None → HasCome r v bs burst 0 0
  come-start bs burst none = record {
    burst_is = none;
    handed = record { homes = []; messages = []; rest = []; handed = nothing };
    most = zero-le;
    lawful = refl;
    far_is = λ homes. refl;
  }

  module _ (bs : List (BeatOf H w)) (burst : Option (H × ℕ)) (at far : ℕ) (come : HasCome r v bs burst at far) where
    module _ (b : BeatOf H w) (next : slice_get bs at ≡ Some b) where
      within : at < length bs
      within = slice_get_within bs at b next

      stands : b ≡ get_or bs at b
      stands = sym (get_or_from_slice_get bs at b b next)

      one-longer : take (at + 1) bs ≡ take at bs ++ b ∷ []
      one-longer = one-more r bs at come.lawful b within stands

      -- the facts that a check shows about the unfinished burst hold for the accepted beats
      pub says-after : (o : Option BeatFault) → fault_in r burst b ≡ o → fault_after r (take at bs) b ≡ o
      says-after o e = ap (λ q. fault_in r q b) (sym come.burst_is) ∙ e

      -- it advances by this beat
      pub come-more : {K : Type 0} (place : Place K H) (given : ℕ) (after : Option (H × ℕ)) → IsWidth w → IsWidth v → place.head ≡ b.head →
          fault_in r burst b ≡ None → IsHanded r (take at bs ++ b ∷ []) → IsPlace r w burst place → Gives r w v place.head place.index given →
          after ≡ burst_after r (take at bs ++ b ∷ []) → HasCome r v bs after (at + 1) (far + given)
      come-more place given after ww vw head fine handed is gives opened = record {
        burst_is = opened ∙ ap (λ q. burst_after r q) (sym one-longer);
        handed = subst (λ q. IsHanded r q) (sym one-longer) handed;
        most = omega (arith, within);
        lawful = accepted-next r bs at come.lawful b within stands (says-after None fine);
        far_is = λ homes.
            ap (λ n. n + given) (come.far_is homes) ∙
            sym (due-count r w v ww vw homes (take at bs) b burst place given come.burst_is head is
            (is.index ∙ ap count_in come.burst_is ∙ count-of r w (rest_of r w (take at bs))) gives) ∙
            ap (λ q. length (due r w v q homes)) (sym one-longer);
      }

    -- if no beat is left, it is done if no burst is unfinished, and otherwise cut
    abbrev verdict_by : Bool → Verdict
    verdict_by whole = if whole then Done at far else Cut at far

    pub done : burst ≡ None → Done at far ≡ verdict_of at far (left r w (take at bs)) None
    done e =
        let none = none-open r (rest_of r w (take at bs)) (sym come.burst_is ∙ e) in
        ap verdict_by (sym (equal_true (left r w (take at bs)) 0 ((left-zero r w come.handed.handed).1 none)))

    pub cut : (open_one : H × ℕ) → burst ≡ Some open_one → Cut at far ≡ verdict_of at far (left r w (take at bs)) None
    cut open_one e =
        let some = some-open r (rest_of r w (take at bs)) open_one (sym come.burst_is ∙ e) in
        ap verdict_by (sym (not_equal (left r w (take at bs)) 0 (λ z. some ((left-zero r w come.handed.handed).0 z))))

    -- the reason why a beat of an independent channel is refused, and the verdict from the accepted beats
    abbrev own : List (BeatOf H w) → BeatOf H w → Option SideFault
    own accepted b = option_map_or (λ fault. Some (Beat fault)) (fault_after r accepted b) None

    abbrev verdict_at : (near beats : ℕ) → List (BeatOf H w) → Verdict
    verdict_at near beats accepted = verdict_of near beats (left r w accepted) (option_map_or (λ b. own accepted b) (slice_get bs near) None)

    alone-at : accepted_of r bs ≡ take at bs → verdict_at at far (take at bs) ≡ verdict_alone r v bs
    alone-at e =
        let homes : List ℕ = map (λ h. r.lane_address h 0) (heads r w (accepted_of r bs)) in
        let near : at ≡ length (accepted_of r bs) = sym (ap length e ∙ length-take-le at bs come.most) in
        let beats : far ≡ length (far_alone r v bs) = come.far_is homes ∙ ap (λ q. length (due r w v q homes)) (sym e) in
        ap (λ q. verdict_at at far q) (sym e) ∙ ap (λ n. verdict_at n far (accepted_of r bs)) near ∙
        ap (λ n. verdict_at (length (accepted_of r bs)) n (accepted_of r bs)) beats

    pub alone-all : length bs ≤ at → verdict_of at far (left r w (take at bs)) None ≡ verdict_alone r v bs
    alone-all past =
        ap (λ o. verdict_of at far (left r w (take at bs)) (option_map_or (λ b. own (take at bs) b) o None)) (sym (slice_get_past bs at past)) ∙
        alone-at (accepted-all r bs at come.lawful past)

    pub alone-stops : (b : BeatOf H w) → slice_get bs at ≡ Some b → (fault : BeatFault) → fault_in r burst b ≡ Some fault →
        verdict_of at far (left r w (take at bs)) (Some (Beat fault)) ≡ verdict_alone r v bs
    alone-stops b next fault e =
        let after : fault_after r (take at bs) b ≡ Some fault = says-after b next (Some fault) e in
        ap (λ o. verdict_of at far (left r w (take at bs)) (option_map_or (λ f. Some (Beat f)) o None)) (sym after) ∙
        ap (λ o. verdict_of at far (left r w (take at bs)) (option_map_or (λ c. own (take at bs) c) o None)) (sym next) ∙
        alone-at (accepted-stop r bs at come.lawful b (within b next) (stands b next) fault after)
