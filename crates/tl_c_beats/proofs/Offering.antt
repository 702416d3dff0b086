-- The status and the effect of an offer, from the held value.
use Rattle.std.specs.Prelude.{◌≢◌, ◌↔◌, ℕ, Bool, true, false, Option, None, Some, Result, Ok, Err, IsOk, IsTrue, IfErr, OnOk, OnErr, if◌then◌else◌}
use Rattle.std.proofs.Common.{◌≡◌, List, [], ◌∷◌, refl, sym, ap, ◌∙◌, subst}
use Rattle.std.proofs.lemmas.Option.{none-some}
use Rattle.tl_msg.specs.declared.fault.SideFault.{SideFault}
use Rattle.tl_ring.specs.Crossing.{World}
use Rattle.tl_ring.specs.Pipe.{Pipe, IsReady}
use Rattle.tl_msg.specs.declared.beat.BeatOf.{BeatOf}
use Rattle.tl_sides.specs.Calls.{SendingChannel, OffersBeat, with_beat}
use Rattle.tl_c_beats.specs.declared.answers.TheConstants.{NOT_READY}
use Rattle.tl_c_beats.specs.Answers.{is_free, is_ready, fault_answer, offer_number}
use Rattle.tl_c_beats.specs.Calls.{Stands, Offers}
use Rattle.tl_c_beats.proofs.Numbers.{side_fault_numbered}

is_free_if : {A : Type 0} (closed : Bool) (stage : List A) → (stage ≡ []) × (closed ≡ false) → is_free closed stage ≡ true
is_free_if false [] e = refl
is_free_if false (b ∷ bs) e = let e0 = e.0 in cc
is_free_if true bs e = let e1 = e.1 in cc

-- a pipe whose stage is that of the crossing, and which is closed as it is
abbrev AreAlike : {H : Type 0} {w v : ℕ} → Pipe H v → World H w v → Type 0
AreAlike p x = (p.stage ≡ x.stage) × (p.closed ≡ x.closed)

ready_if : {H : Type 0} {w v : ℕ} (p : Pipe H v) (x : World H w v) → AreAlike p x → IsReady p → is_ready x ≡ true
ready_if p x alike is = is_free_if x.closed x.stage (sym alike.0 ∙ is.0, sym alike.1 ∙ is.1)

verdict_told : (offered : Result Unit SideFault) (verdict : Option SideFault) → IsOk offered ↔ (verdict ≡ None) →
    IfErr offered (λ fault. verdict ≡ Some fault)
    → offer_number offered ≡ fault_answer verdict
verdict_told (Ok done) verdict admitted fault = ap fault_answer (sym (admitted.0 refl))
verdict_told (Err f) verdict admitted fault = ap fault_answer (sym fault)

on_0 : {Q : Type 0} (offered : Result Unit SideFault) → OnOk offered Q → offer_number offered ≡ 0 → Q
on_0 (Ok done) q e = q
on_0 (Err fault) q e = absurd (side_fault_numbered fault e)

on_else : {Q : Type 0} (offered : Result Unit SideFault) → OnErr offered Q → offer_number offered ≢ 0 → Q
on_else (Ok done) q not = absurd (not refl)
on_else (Err fault) q not = q

held_not_none : {S Q : Type 0} {before : Option S} {h : S} → before ≡ Some h → before ≡ None → Q
held_not_none {h = h} was e = absurd (none-some h (sym e ∙ was))

stands_held : {S P : Type 0} (StandsFor : S → P → Type 0) {before : Option S} {h : S} → before ≡ Some h → (x : P) →
    Stands StandsFor before x → StandsFor h x
stands_held StandsFor was x held = subst (λ s. Stands StandsFor s x) was held

module _ {S P : Type 0} {StandsFor : S → P → Type 0} {R H : Type 0} {w v : ℕ} {k : SendingChannel R P H w v} {b : BeatOf H w} {before now : Option S}
    {none : ℕ} where
  -- the held value is the side q before the offer and q' after it; the offered beat is the one that C passes
  pub offers : (of : R → S) (q q' : R) (p : Pipe H v) → ((x : P) → StandsFor (of q) x → AreAlike p (k.crossing x)) →
      before ≡ Some (of q) → now ≡ Some (of q') →
      ((x : P) → StandsFor (of q) x → k.Stands q x) → ((x : P) → k.Stands q' x → StandsFor (of q') x) →
      {answer : ℕ} {given : BeatOf H w} (offered : Result Unit SideFault) →
      given ≡ b → IsTrue true ↔ IsReady p → answer ≡ offer_number offered → OffersBeat k given q offered q' →
      Offers (Stands StandsFor) none k b before now answer
  offers of q q' p alike was is to from {answer = answer} {given = given} offered same_beat asked told said =
      subst (λ z. Offers (Stands StandsFor) none k z before now answer) same_beat (record {
        nothing = held_not_none was;
        answers = λ x held. let s = stands_held StandsFor was x held in
            told ∙ verdict_told offered (k.stops x given) (said.admitted x (to x s)) (said.fault x (to x s))
            ∙ ap (λ t. if t then fault_answer (k.stops x given) else NOT_READY) (sym (ready_if p (k.crossing x) (alike x s) (asked.0 refl)));
        accepted = λ x held e. subst (λ s. Stands StandsFor s (with_beat k given x)) (sym is)
            (from (with_beat k given x) (on_0 offered (said.accepted x (to x (stands_held StandsFor was x held))) (sym told ∙ e)));
        refused = λ e. is ∙ ap (λ z. Some (of z)) (on_else offered said.refused (λ z. e (told ∙ z))) ∙ sym was;
      })
