-- A null pointer owns nothing.
use Rattle.tl_c_beats.proofs.Owners.{nothing_meets}
use Rattle.tl_c.proofs.AsOwners.{manager}
use Rattle.tl_c.specs.contracts.manager_handle.OwnedManager.nothing.Key.{name}
use Rattle.tl_c.proofs.manager_handle.OwnedManager.nothing.Statement.{statement}
use Rattle.tl_c.proofs.manager_handle.OwnedManager.nothing.Code as code

pub nothing_spec : {M : Type 1} → statement M
nothing_spec 𝓤 𝓛 𝓜 𝓡 wired = nothing_meets manager 𝓛 𝓜 𝓡 name (code.unfolded 𝓤 𝓛.H 𝓜 𝓡 wired)
