-- The result of making a bridge, and the properties of both sides of a new one. Only contracts of private functions use
-- these definitions.
use Rattle.std.specs.Prelude.{◌≡◌, ◌≤◌, ◌<◌, ◌↔◌, ◌⊎◌, ℕ, Result, IsOk, IfOk, IfErr}
use Rattle.tl_ring.specs.declared.fault.BuildFault.{BuildFault}
use Rattle.tl_ring.specs.declared.fault.BuildFault.TheVariants.{RingSize}
use Rattle.tl_ring.specs.declared.pipe.TheConstants.{MAX_RING}
use Rattle.tl_sides.specs.Sides.{ClientState, ManagerState, ClientStandsFor, ManagerStandsFor}
use Rattle.tl_sides.specs.Sides.{AreSides, IsNewClient, IsNewManager, new_client, new_manager}

-- the result is new, with rings of `ring` beats, or is refused as a ring is
pub record IsMade {T : Type 0} (IsNew : T → Type 0) (ring : ℕ) (answer : Result T BuildFault) : Type 0 where
  pub new : IfOk answer IsNew
  pub size : IsOk answer → (1 ≤ ring) × (ring ≤ MAX_RING)
  pub ring_size : IfErr answer (λ fault. (fault ≡ RingSize) ↔ ((ring ≡ 0) ⊎ (MAX_RING < ring)))

-- the postcondition of `bridge` for both sides
pub record AreNewSides {A : Type 0} {C M : ℕ} (size : ℕ) (s : ClientState A C M) (t : ManagerState A C M) : Type 0 where
  pub pair : AreSides s t
  pub client : ClientStandsFor s (new_client size)
  pub manager : ManagerStandsFor t (new_manager size)
  pub client_knows : IsNewClient size s
  pub manager_knows : IsNewManager size t
