use Rattle.tl_stream.proofs.Names.{length, ◌-◌}
use Rattle.tl_stream.proofs.Filling.{SoFar}
use Rattle.tl_stream.proofs.input.fill.Given as goal

abbrev pub invariant-loop-filled : goal.invariant-loop-filled
invariant-loop-filled g l = SoFar (g.R.Read.remaining l.fn.reader) (g.R.Read.remaining l.reader) l.most l.room l.filled

abbrev pub decreases-loop-filled : goal.decreases-loop-filled
decreases-loop-filled g l = length l.room - l.filled
