-- Something is held, so the parts have what the owner had.
use Rattle.tl_c_beats.proofs.Owners.{into_parts_meets}
use Rattle.tl_c_beats.proofs.AsOwner.{text}
use Rattle.tl_c_beats.specs.contracts.answer_block.OwnedText.into_parts.Key.{name}
use Rattle.tl_c_beats.proofs.answer_block.OwnedText.into_parts.Statement.{statement}
use Rattle.tl_c_beats.proofs.answer_block.OwnedText.into_parts.Code as code

pub into_parts_spec : {M : Type 1} → statement M
into_parts_spec 𝓤 𝓛 𝓜 𝓡 wired = into_parts_meets text 𝓛 𝓜 𝓡 name (code.unfolded 𝓤 𝓛.H 𝓜 𝓡 wired)
