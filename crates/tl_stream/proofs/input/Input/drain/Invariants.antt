use Rattle.tl_stream.proofs.ToRead.{IsDraining, to_read}
use Rattle.tl_stream.proofs.input.Input.drain.Given as goal

abbrev pub invariant-loop-self : goal.invariant-loop-self
invariant-loop-self g l = IsDraining (g.R.Read.remaining l.fn.reader) (g.R.Read.remaining l.reader) l.fn.self l.self

abbrev pub decreases-loop-self : goal.decreases-loop-self
decreases-loop-self g l = to_read l.self
