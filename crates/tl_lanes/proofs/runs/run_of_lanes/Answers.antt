use Rattle.std.proofs.Common.{ℕ, ◌*◌, ◌^◌, ◌%◌, ap, ◌∙◌}
use Rattle.tl_lanes.specs.declared.limits.TheConstants.{WIDEST}
use Rattle.tl_lanes.proofs.Masks.{ones-shifted}
use Rattle.tl_lanes.proofs.runs.run_of_lanes.Goals as goal

pub returns : goal.returns
returns c =
    ap (λ (x : ℕ). x * 2 ^ c.args.first % 2 ^ WIDEST) c.ones.ensures ∙ ones-shifted c.args.first c.args.count c.requires.room
