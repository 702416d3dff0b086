-- The effect of a call on a part of a channel's holder is its effect on the whole: that on an outbox or an inbox is lifted to
-- the bridge, and to its side.
use Rattle.std.specs.Prelude.{◌≡◌, ◌↔◌, ℕ, None, Some, [], Option, Result, IsOk, IfErr, IfSome, slice_get}
use Rattle.std.proofs.Common.{sym, subst, ap, ◌∙◌}
use Rattle.tl_sides.proofs.Words.{IsLawfulBeat, BeatOf, SideFault, rest_of, EndFault, on_ok, on_err}
use Rattle.tl_sides.specs.Calls.{SendingChannel, TakingChannel, OffersBeat, ClosesChannel, TakesBeat, with_beat, ended}

-- the left side of an equation
abbrev pub left_of : {A : Type 0} {x y : A} → x ≡ y → A
left_of {x = x} same = x

-- a part s of the whole `up s`, which represents the part `down y` of the past y
module _ {S P T Q H : Type 0} {w v : ℕ} (k : SendingChannel S P H w v) (j : SendingChannel T Q H w v) (up : S → T) (down : Q → P) (s s' : S)
    (part : (y : Q) → j.Stands (up s) y → k.Stands s (down y)) where
  pub offer_lifted : (b : BeatOf H w) (answer : Result (Unit {0}) SideFault) → ((y : Q) → k.stops (down y) b ≡ j.stops y b) →
      j.Keeps (up s) (up s') →
      ((y : Q) → j.Stands (up s) y → j.stops y b ≡ None → k.Stands s' (with_beat k b (down y)) → j.Stands (up s') (with_beat j b y)) →
      OffersBeat k b s answer s' → OffersBeat j b (up s) answer (up s')
  offer_lifted b answer stops keeps whole said =
      let goes = λ (y : Q) (h : j.Stands (up s) y). subst (λ z. IsOk answer ↔ (z ≡ None)) (stops y) (said.admitted (down y) (part y h)) in
      record {
        admitted = goes;
        accepted = λ y h. on_ok answer (λ ok stands. whole y h ((goes y h).0 ok) stands) (said.accepted (down y) (part y h));
        fault = λ y h. subst (λ z. IfErr answer (λ fault. z ≡ Some fault)) (stops y) (said.fault (down y) (part y h));
        refused = on_err answer (λ same. ap up same) said.refused;
        rest = keeps;
      }

  pub close_lifted : (answer : Result (Unit {0}) EndFault) → k.rules ≡ j.rules → ((y : Q) → j.Stands (up s) y → (k.crossing (down y)).accepted ≡ (j.crossing y).accepted) →
      k.closed s ≡ j.closed (up s) → up (k.as_closed s) ≡ j.as_closed (up s) →
      ((y : Q) → j.Stands (up s) y → rest_of j.rules w (j.crossing y).accepted ≡ [] → j.Stands (up (k.as_closed s)) (ended j y)) →
      ClosesChannel k s answer s' → ClosesChannel j (up s) answer (up s')
  close_lifted answer rules accepted closed as_closed whole said =
      let over = λ (y : Q) (h : j.Stands (up s) y). subst (λ r. IsOk answer ↔ (rest_of r w (j.crossing y).accepted ≡ [])) rules
      (subst (λ bs. IsOk answer ↔ (rest_of k.rules w bs ≡ [])) (accepted y h) (said.between (down y) (part y h))) in
      record {
        between = over;
        stands = λ y h. on_ok answer (λ ok made. subst (λ z. j.Stands (up z) (ended j y)) (sym made) (whole y h ((over y h).0 ok))) said.closed;
        closed = on_ok answer (λ ok made. ap up made ∙ as_closed) said.closed;
        again = λ shut. let again = said.again (closed ∙ shut) in (again.0, ap up again.1);
        refused = on_err answer (λ same. ap up same) said.refused;
      }

pub take_lifted : {S P T Q H : Type 0} {w : ℕ} (k : TakingChannel S P H w) (j : TakingChannel T Q H w) (up : S → T) (down : Q → P) (s s' : S)
    (answer : Option (BeatOf H w)) →
    ((y : Q) → j.Stands (up s) y → k.Stands s (down y)) → k.rules ≡ j.rules → k.inbox s ≡ j.inbox (up s) → (k.Keeps s s' → j.Keeps (up s) (up s')) →
    ((y : Q) → j.Stands (up s) y → k.Keeps s s' → k.Stands s' (k.after_take s (down y)) → j.Stands (up s') (j.after_take (up s) y)) →
    TakesBeat k s answer s' → TakesBeat j (up s) answer (up s')
take_lifted k j up down s s' answer part rules inbox keeps whole said = record {
  beat = said.beat ∙ ap (λ bs. slice_get bs 0) inbox;
  lawful = subst (λ r. IfSome answer (λ beat. IsLawfulBeat r beat)) rules said.lawful;
  taken = λ y h. whole y h said.rest (said.taken (down y) (part y h));
  rest = keeps said.rest;
}
