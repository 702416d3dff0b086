-- A run whose ring size was tested is refused only if memory runs out.
pub use Rattle.tl_ring.proofs.Moves.{not-ok}
use Rattle.tl_run.proofs.Names.{◌≡◌, ◌≢◌, ◌≤◌, ◌<◌, ◌⊎◌, ◌↔◌, ⊎_elim, ℕ, arith}
use Rattle.tl_ring.specs.declared.pipe.TheConstants.{MAX_RING}
use Rattle.tl_run.specs.declared.outcome.RunFault.{RunFault}
use Rattle.tl_run.specs.declared.outcome.RunFault.TheVariants.{RingSize, OutOfMemory, Stalled}

-- a wrong size of the rings is no Stalled
pub stalled-never : (fault : RunFault) → fault ≡ RingSize → fault ≢ Stalled
stalled-never fault is same = cc (is, same)

-- want of memory is no RingSize, and no Stalled
pub only-memory : (fault : RunFault) → fault ≡ OutOfMemory → (ring : ℕ) → ring ≢ 0 → ring ≤ MAX_RING →
    ((fault ≡ RingSize) ↔ ((ring ≡ 0) ⊎ (MAX_RING < ring))) × (fault ≢ Stalled)
only-memory fault memory ring some few = (
  (λ same. absurd (cc (memory, same)), λ refused. absurd (⊎_elim some (λ above. omega (arith, few, above)) refused)),
  λ same. cc (memory, same),
)
