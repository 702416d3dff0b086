use Rattle.std.proofs.lemmas.Nat.Bits.{bit_at_cat_low, bit_at_cat_high}
use Rattle.tl_c_beats.proofs.laws.words_tell_masks.Goals as goal

pub returns-clause-low_lanes : goal.returns-clause-low_lanes
returns-clause-low_lanes c = λ low high lane below. bit_at_cat_low high 64 low lane below

pub returns-clause-high_lanes : goal.returns-clause-high_lanes
returns-clause-high_lanes c = λ low high lane fits above. bit_at_cat_high high 64 low lane fits above
