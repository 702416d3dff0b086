use Rattle.tl_parts.specs.Parts.{near_beats}
use Rattle.tl_check.proofs.Names.{all-held}
use Rattle.tl_check.proofs.verdicts.verdicts_of.Goals as goal

pub returns : goal.returns
returns g c =
    let script = c.args.script.now in
    let made = c.new-judge.ensures in
    c.end.ensures (near_beats script) (all-held c.new-judge.result.discarded script made.none) (made.judged (near_beats script))
