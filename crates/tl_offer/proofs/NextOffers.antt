-- The outcome of offering the next beat of a channel that a side of a run sends.
use Rattle.tl_offer.proofs.Names.{◌≡◌, ◌∙◌, ℕ, false, None, Some, List, [], ◌∷◌, Result, Ok, Err, refl, sym, subst, slice_get}
use Rattle.tl_offer.proofs.Names.{BeatOf, SideFault, offered, shut, Pipe, IsReady, OffersNext, offer_outcome, close_outcome, Offered, NotReady}
use Rattle.tl_offer.proofs.Names.{SendingChannel, OffersBeat, ClosesChannel}
use Rattle.tl_ring.specs.Pipe.{StandsFor}
use Rattle.tl_ring.specs.declared.fault.EndFault.{EndFault}
use Rattle.tl_offer.proofs.OfferSteps.{not_ready}

module _ {S P H : Type 0} {w v : ℕ} (k : SendingChannel S P H w v) (s : S) where
  -- an unchanged side represents the same pasts
  still : (s' : S) → s' ≡ s → (x : P) → k.Stands s x → k.Stands s' (k.put (k.crossing x) (k.note [] x))
  still s' same x h =
      subst (λ q. k.Stands s' (k.put (k.crossing x) q)) (sym (k.noted x))
      (subst (λ q. k.Stands s' q) (sym (k.kept x)) (subst (λ q. k.Stands q x) (sym same) h))

  -- the channel is not ready, whose pipe is this one
  pub waits : (pipe : Pipe H v) → ((x : P) → k.Stands s x → StandsFor k.rules pipe (k.crossing x)) → (IsReady pipe → ⊥) →
      (bs : List (BeatOf H w)) (n : ℕ) (b : BeatOf H w) → slice_get bs n ≡ Some b → OffersNext k bs n s NotReady s
  waits pipe stands unready bs n b next = record {
    keeps = k.keeps_same s;
    does = λ x h. ([], k.crossing x, still s refl x h, (b, next, not_ready k.rules pipe (k.crossing x) (stands x h) unready, refl, refl));
    ready = λ offered. elim offered [ ];
  }

  -- the crossing of a channel that is ready has nothing staged, and isn't closed
  as-ready : (pipe : Pipe H v) → ((x : P) → k.Stands s x → StandsFor k.rules pipe (k.crossing x)) → IsReady pipe → (x : P) → k.Stands s x →
      ((k.crossing x).stage ≡ []) × ((k.crossing x).closed ≡ false)
  as-ready pipe stands is_ready x h = (sym (stands x h).stage ∙ is_ready.0, sym (stands x h).closed ∙ is_ready.1)

  -- the next beat of a list was offered, and answered
  pub answers : (bs : List (BeatOf H w)) (n : ℕ) (b : BeatOf H w) → slice_get bs n ≡ Some b → (pipe : Pipe H v) →
      ((x : P) → k.Stands s x → StandsFor k.rules pipe (k.crossing x)) → IsReady pipe → (r : Result (Unit {0}) SideFault) (s' : S) →
      OffersBeat k b s r s' → OffersNext k bs n s (offer_outcome r) s'
  answers bs n b next pipe stands is_ready (Ok u) s' said = record {
    keeps = said.rest;
    does = λ x h. (b ∷ [], offered k.rules b (k.home x b) (k.crossing x), said.accepted x h, (b, next, (said.admitted x h).0 refl, refl, refl));
    ready = λ _ x h. as-ready pipe stands is_ready x h;
  }
  answers bs n b next pipe stands is_ready (Err e) s' said = record {
    keeps = said.rest;
    does = λ x h. ([], k.crossing x, still s' said.refused x h, (b, next, said.fault x h, refl, refl));
    ready = λ _ x h. as-ready pipe stands is_ready x h;
  }

  -- no beat is left, and the channel was closed
  pub closes : (bs : List (BeatOf H w)) (n : ℕ) → slice_get bs n ≡ None → (r : Result (Unit {0}) EndFault) (s' : S) → ClosesChannel k s r s' →
      OffersNext k bs n s (close_outcome r) s'
  closes bs n past (Ok u) s' said = record {
    keeps = subst (λ q. k.Keeps s q) (sym said.closed) (k.keeps_closed s);
    does = λ x h. (
      [],
      shut (k.crossing x),
      subst (λ q. k.Stands s' (k.put (shut (k.crossing x)) q)) (sym (k.noted x)) (said.stands x h),
      (past, (said.between x h).0 refl, refl, refl),
    );
    ready = λ offered. elim offered [ ];
  }
  closes bs n past (Err e) s' said = record {
    keeps = subst (λ q. k.Keeps s q) (sym said.refused) (k.keeps_same s);
    does = λ x h. ([], k.crossing x, still s' said.refused x h, (past, (λ whole. let ok = (said.between x h).1 whole in cc), refl, refl));
    ready = λ offered. elim offered [ ];
  }

-- the same for a list that is equal to another one
pub of-list : {S P H : Type 0} {w v : ℕ} (k : SendingChannel S P H w v) {bs bs' : List (BeatOf H w)} {n : ℕ} {s s' : S} {o : Offered} → bs ≡ bs' →
    OffersNext k bs n s o s' → OffersNext k bs' n s o s'
of-list k {n = n} {s = s} {s' = s'} {o = o} same told = subst (λ q. OffersNext k q n s o s') same told
