-- The status and the effect of a close, from the close of the held value.
use Rattle.std.specs.Prelude.{◌≢◌, ◌↔◌, ℕ, Option, None, Some, Result, Ok, Err, IsOk, OnOk, OnErr}
use Rattle.std.proofs.Common.{◌≡◌, List, [], ◌∷◌, refl, sym, ap, ◌∙◌, subst}
use Rattle.std.proofs.lemmas.Option.{none-some}
use Rattle.tl_ring.specs.declared.fault.EndFault.{EndFault}
use Rattle.tl_ring.specs.declared.fault.EndFault.TheVariants.{MidBurst}
use Rattle.tl_burst.specs.Handing.{rest_of}
use Rattle.tl_sides.specs.Calls.{SendingChannel, ended}
use Rattle.tl_c_beats.specs.Answers.{close_answer, close_number}
use Rattle.tl_c_beats.specs.Calls.{Closes, ClosesNumbered}
use Rattle.tl_c_beats.proofs.Numbers.{end_fault_numbered}

on_0 : {Q : Type 0} (closed : Result Unit EndFault) → OnOk closed Q → close_number closed ≡ 0 → Q
on_0 (Ok done) q e = q
on_0 (Err fault) q e = absurd (end_fault_numbered fault e)

on_else : {Q : Type 0} (closed : Result Unit EndFault) → OnErr closed Q → close_number closed ≢ 0 → Q
on_else (Ok done) q not = absurd (not refl)
on_else (Err fault) q not = q

close_told : {A : Type 0} (closed : Result Unit EndFault) (rest : List A) → IsOk closed ↔ (rest ≡ []) → close_number closed ≡ close_answer rest
close_told (Ok done) rest between = ap close_answer (sym (between.0 refl))
close_told (Err fault) [] between = let e = between.1 refl in cc
close_told (Err MidBurst) (b ∷ bs) between = refl

held_not_none : {S Q : Type 0} {before : Option S} {h : S} → before ≡ Some h → before ≡ None → Q
held_not_none {h = h} was e = absurd (none-some h (sym e ∙ was))

-- the held value is the side q before the call and q' after it
pub closes : {S P R H : Type 0} {w v : ℕ} {Holds : Option S → P → Type 0} {none : ℕ} {k : SendingChannel R P H w v} {before now : Option S}
    {answer : ℕ} (of : R → S) {q q' : R} →
    before ≡ Some (of q) → now ≡ Some (of q') → ((x : P) → Holds (Some (of q)) x → k.Stands q x) →
    ((x : P) → k.Stands q' x → Holds (Some (of q')) x) →
    ClosesNumbered k q answer q' → Closes Holds none k before now answer
closes {w = w} {Holds = Holds} {k = k} of was is to from told =
    let closed = told.answer in let said = told.closes in
    record {
      nothing = held_not_none was;
      answers = λ x h. told.numbered ∙ close_told closed (rest_of k.rules w (k.crossing x).accepted) (said.between x (to x (subst (λ s. Holds s x) was h)));
      closed = λ x h e. subst (λ s. Holds s (ended k x)) (sym is)
          (from (ended k x) (on_0 closed (said.stands x (to x (subst (λ s. Holds s x) was h))) (sym told.numbered ∙ e)));
      refused = λ e. is ∙ ap (λ z. Some (of z)) (on_else closed said.refused (λ z. e (told.numbered ∙ z))) ∙ sym was;
    }
