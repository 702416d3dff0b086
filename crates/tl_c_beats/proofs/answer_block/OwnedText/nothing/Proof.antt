-- A null pointer owns nothing.
use Rattle.tl_c_beats.proofs.Owners.{nothing_meets}
use Rattle.tl_c_beats.proofs.AsOwner.{text}
use Rattle.tl_c_beats.specs.contracts.answer_block.OwnedText.nothing.Key.{name}
use Rattle.tl_c_beats.proofs.answer_block.OwnedText.nothing.Statement.{statement}
use Rattle.tl_c_beats.proofs.answer_block.OwnedText.nothing.Code as code

pub nothing_spec : {M : Type 1} → statement M
nothing_spec 𝓤 𝓛 𝓜 𝓡 wired = nothing_meets text 𝓛 𝓜 𝓡 name (code.unfolded 𝓤 𝓛.H 𝓜 𝓡 wired)
