-- The status of making a bridge.
use Rattle.std.specs.Prelude.{IfSome}
use Rattle.std.proofs.Common.{◌≡◌, ◌≤◌, ◌<◌, ◌⊎◌, ◌↔◌, ℕ, Option, Some, inl, inr, refl, sym, subst, arith}
use Rattle.tl_ring.specs.declared.fault.BuildFault.{BuildFault}
use Rattle.tl_ring.specs.declared.fault.BuildFault.TheVariants.{RingSize, OutOfMemory}
use Rattle.tl_ring.specs.declared.pipe.TheConstants.{MAX_RING}
use Rattle.tl_ring.specs.Names.{build_fault_number}
use Rattle.tl_ring.proofs.Moves.{ring_size_only}
use Rattle.tl_c_beats.specs.Calls.{Stands}
use Rattle.tl_c_beats.specs.Receipts.{IsLater, without_number}
use Rattle.tl_c_beats.specs.declared.bridge_id.BridgeId.{BridgeId}

abbrev IsNoSize : ℕ → Type 0
IsNoSize ring = (ring ≡ 0) ⊎ (MAX_RING < ring)

-- the status is the number of a fault
pub no_success : {X : Type 0} (fault : BuildFault) {n : ℕ} → n ≡ build_fault_number fault → n ≡ 0 → X
no_success RingSize e zero = absurd (omega (arith, e, zero))
no_success OutOfMemory e zero = absurd (omega (arith, e, zero))

pub is_fault : (fault : BuildFault) {n : ℕ} → n ≡ build_fault_number fault → (n ≡ 0) ⊎ ((n ≡ 12) ⊎ (n ≡ 13))
is_fault RingSize e = inr (inl e)
is_fault OutOfMemory e = inr (inr e)

pub refused_size : (fault : BuildFault) {n ring : ℕ} → n ≡ build_fault_number fault → (fault ≡ RingSize) ↔ IsNoSize ring → (n ≡ 12) ↔ IsNoSize ring
refused_size RingSize e exact = (λ is. exact.0 refl, λ no. e)
refused_size OutOfMemory e exact = (λ is. absurd (omega (arith, e, is)), λ no. absurd (let same = exact.1 no in cc))

-- the ring has a valid size: so RingSize is not returned
lawful_size : {n ring : ℕ} → (1 ≤ ring) × (ring ≤ MAX_RING) → (n ≡ 12 → ⊥) → (n ≡ 12) ↔ IsNoSize ring
lawful_size {ring = ring} size not = (λ is. absurd (not is), λ no. absurd (ring_size_only ring size no))

pub made_size : {n ring : ℕ} → n ≡ 0 → (1 ≤ ring) × (ring ≤ MAX_RING) → (n ≡ 12) ↔ IsNoSize ring
made_size zero size = lawful_size size (λ is. omega (arith, zero, is))

pub memory_size : {n ring : ℕ} → n ≡ 13 → (1 ≤ ring) × (ring ≤ MAX_RING) → (n ≡ 12) ↔ IsNoSize ring
memory_size none size = lawful_size size (λ is. omega (arith, none, is))

-- the side that is put into a handle represents a past
pub stands : {S P : Type 0} (StandsFor : S → P → Type 0) {held : Option S} {h : S} {x : P} → held ≡ Some h → StandsFor h x → Stands StandsFor held x
stands StandsFor {x = x} is h = subst (λ s. Stands StandsFor s x) (sym is) h

-- what a side that is put into a handle knows
pub knows_new : {S : Type 0} (Q : S → Type 0) {held : Option S} {h : S} → held ≡ Some h → Q h → IfSome held Q
knows_new Q is knows = subst (λ s. IfSome s Q) (sym is) knows

-- a free keeps the numbers of the openings, so that the next one is later than them
pub later : (x y : BridgeId) {x' y' : BridgeId} {n : ℕ} → x' ≡ without_number x → y' ≡ without_number y → IsLater x'.opening y'.opening n →
    IsLater x.opening y.opening n
later x y {x'} {y'} {n} e f is =
    subst (λ b. IsLater x.opening b.opening n) f (subst (λ b. IsLater b.opening y'.opening n) e is)
