-- The steps of a channel within a round, and the reason why it waits.
use Rattle.tl_offer.proofs.Names.{◌≡◌, ◌↔◌, ◌⊎◌, ◌≢◌, ℕ, Bool, true, false, Option, List, [], ◌∷◌, inl, inr, refl, ap, ◌∙◌}
use Rattle.tl_offer.proofs.Names.{IsTrue, Rules, BeatOf, SideFault, World, Pipe}
use Rattle.tl_offer.proofs.Names.{IsReady, Does, Done, Cut, Refused, Offered, Accepted, NotReady, Stopped}
use Rattle.tl_ring.specs.Pipe.{StandsFor}

-- a test that fails shows that its condition does not hold
pub fails : {P : Type 0} (test : Bool) → IsTrue test ↔ P → test ≡ false → P → ⊥
fails true exactly false_is p = cc
fails false exactly false_is p = let e : false ≡ true = exactly.1 p in cc

-- a stage with a beat in it, or a channel that is closed
staged_or_closed : {A : Type 0} (stage : List A) (closed : Bool) → ((stage ≡ []) × (closed ≡ false) → ⊥) → (stage ≢ []) ⊎ (closed ≡ true)
staged_or_closed stage true unready = inr refl
staged_or_closed [] false unready = absurd (unready (refl, refl))
staged_or_closed (b ∷ bs) false unready = inl (λ e. cc)

-- a pipe that is not ready has beats in its stage, or is closed
pub not_ready : {H : Type 0} (r : Rules H) {w v : ℕ} (p : Pipe H v) (x : World H w v) → StandsFor r p x → (IsReady p → ⊥) →
    (x.stage ≢ []) ⊎ (x.closed ≡ true)
not_ready r p x h unready = staged_or_closed x.stage x.closed (λ e. unready (h.stage ∙ e.0, h.closed ∙ e.1))

module _ {H : Type 0} (r : Rules H) {w v : ℕ} (bs : List (BeatOf H w)) (n : ℕ) (answer : BeatOf H w → Option SideFault)
    (home : BeatOf H w → ℕ) (x y : World H w v) where
  -- an offer does not change the beats taken
  pub does-taken : (o : Offered) (accepted : List (BeatOf H w)) → Does r bs n answer home x o accepted y → y.taken ≡ x.taken
  does-taken Accepted accepted (b, at, ok, one, made) = ap (λ z. z.taken) made
  does-taken NotReady accepted (b, at, full, none, made) = ap (λ z. z.taken) made
  does-taken (Stopped (Refused fault)) accepted (b, at, is, none, made) = ap (λ z. z.taken) made
  does-taken (Stopped Done) accepted (past, rest, none, made) = ap (λ z. z.taken) made
  does-taken (Stopped Cut) accepted (past, rest, none, made) = ap (λ z. z.taken) made
