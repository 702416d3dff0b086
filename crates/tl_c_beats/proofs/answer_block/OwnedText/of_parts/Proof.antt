-- The owner has what the parts had.
use Rattle.tl_c_beats.proofs.Owners.{of_parts_meets}
use Rattle.tl_c_beats.proofs.AsOwner.{text}
use Rattle.tl_c_beats.specs.contracts.answer_block.OwnedText.of_parts.Key.{name}
use Rattle.tl_c_beats.proofs.answer_block.OwnedText.of_parts.Statement.{statement}
use Rattle.tl_c_beats.proofs.answer_block.OwnedText.of_parts.Code as code

pub of_parts_spec : {M : Type 1} → statement M
of_parts_spec 𝓤 𝓛 𝓜 𝓡 wired = of_parts_meets text 𝓛 𝓜 𝓡 name (code.unfolded 𝓤 𝓛.H 𝓜 𝓡 wired)
