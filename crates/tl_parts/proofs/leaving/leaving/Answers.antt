use Rattle.std.proofs.Common.{◌-◌, arith}
use Rattle.tl_parts.proofs.Parts.{going-all, going-none}
use Rattle.tl_parts.proofs.leaving.leaving.Goals.{then-past-held, else-past-held}
use Rattle.tl_parts.proofs.leaving.leaving.Goals as goal

-- search finds it: an edit turns this one
pub returns-clause-past : goal.returns-clause-past
returns-clause-past c = elim c.if-past-held.branch [
  | then-past-held w ↦ omega (arith, c.requires.from, w.count-is)
  | else-past-held w ↦ omega (arith, c.requires.from, w.count-is)
]

pub returns-clause-all : goal.returns-clause-all
returns-clause-all c = elim c.if-past-held.branch [
  | then-past-held w ↦ going-all _ (c.args.at - c.args.discarded.now) c.args.held w.count-is (omega (arith, w.if-past-held.true))
  | else-past-held w ↦ going-none _ (c.args.at - c.args.discarded.now) c.args.held w.count-is (omega (arith, w.if-past-held.false))
]
