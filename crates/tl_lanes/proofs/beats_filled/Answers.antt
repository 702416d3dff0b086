use Rattle.std.proofs.Common.{◌≡◌, min, rules}
use Rattle.std.specs.Int.{trailing_zeros}
use mir.Syntax.{w64}
use Rattle.tl_lanes.proofs.Quotients.{shifted}
use Rattle.tl_lanes.proofs.beats_filled.Goals as goal

pub returns : goal.returns
returns c =
    let shift : c.min.result ≡ min (trailing_zeros w64 c.args.w) c.args.size = search rules in
    shifted c.args.count c.args.size c.args.w c.min.result c.requires.width shift
