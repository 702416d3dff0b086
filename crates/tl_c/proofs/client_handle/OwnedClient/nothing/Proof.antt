-- A null pointer owns nothing.
use Rattle.tl_c_beats.proofs.Owners.{nothing_meets}
use Rattle.tl_c.proofs.AsOwners.{client}
use Rattle.tl_c.specs.contracts.client_handle.OwnedClient.nothing.Key.{name}
use Rattle.tl_c.proofs.client_handle.OwnedClient.nothing.Statement.{statement}
use Rattle.tl_c.proofs.client_handle.OwnedClient.nothing.Code as code

pub nothing_spec : {M : Type 1} → statement M
nothing_spec 𝓤 𝓛 𝓜 𝓡 wired = nothing_meets client 𝓛 𝓜 𝓡 name (code.unfolded 𝓤 𝓛.H 𝓜 𝓡 wired)
