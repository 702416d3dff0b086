-- The errors of a run.
use Rattle.tl_answer.proofs.Names.{Result, Ok, Err, IfErr, ◌≡◌, ◌≢◌, ◌≤◌, ◌<◌, ◌⊎◌, ◌↔◌, ℕ, inl, inr, refl, arith, IfErr-weaker}
use Rattle.tl_run.specs.declared.outcome.RunFault.{RunFault}
use Rattle.tl_run.specs.declared.outcome.RunFault.TheVariants.{RingSize, OutOfMemory, Stalled}
use Rattle.tl_ring.specs.declared.pipe.TheConstants.{MAX_RING}

-- not the size of its rings, if they are in range
pub size-is-right : {X : Type 0} (result : Result X RunFault) (ring : ℕ) → 1 ≤ ring → ring ≤ MAX_RING →
    IfErr result (λ fault. (fault ≡ RingSize) ↔ ((ring ≡ 0) ⊎ (MAX_RING < ring))) → IfErr result (λ fault. fault ≢ RingSize)
size-is-right result ring some few refused =
    IfErr-weaker result (λ fault. (fault ≡ RingSize) ↔ ((ring ≡ 0) ⊎ (MAX_RING < ring))) (λ fault. fault ≢ RingSize)
    (λ fault when is. elim (when.0 is) [
      | inl none ↦ omega (arith, none, some)
      | inr more ↦ omega (arith, more, few)
    ]) refused

-- and not a stall: so only out of memory
pub for-memory : {X : Type 0} (result : Result X RunFault) → IfErr result (λ fault. fault ≢ RingSize) → IfErr result (λ fault. fault ≢ Stalled) →
    IfErr result (λ fault. fault ≡ OutOfMemory)
for-memory (Ok made) sized moves = tt
for-memory (Err RingSize) sized moves = absurd (sized refl)
for-memory (Err OutOfMemory) sized moves = refl
for-memory (Err Stalled) sized moves = absurd (moves refl)
