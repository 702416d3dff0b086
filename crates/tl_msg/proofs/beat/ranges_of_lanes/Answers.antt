-- An item of a slice in memory is in the range of its type, for any default.
use Rattle.std.proofs.Common.{arith}
use Rattle.std.proofs.lemmas.Grind.{get_or_default_zero}
use Rattle.tl_msg.proofs.beat.ranges_of_lanes.Goals as goal

pub returns : goal.returns
returns c = λ k d h. rw (get_or_default_zero c.args.lanes.now k d h) (omega (arith, c.type_inv.lanes k))
