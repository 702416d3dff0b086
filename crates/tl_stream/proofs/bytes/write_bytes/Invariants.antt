use Rattle.tl_stream.proofs.Names.{length, ◌-◌}
use Rattle.tl_stream.proofs.Writing.{SoFar}
use Rattle.tl_stream.proofs.bytes.write_bytes.Given as goal

abbrev pub invariant-loop-written : goal.invariant-loop-written
invariant-loop-written g l = SoFar (g.W.Write.contents l.fn.writer) (g.W.Write.contents l.writer) l.bytes l.written

abbrev pub decreases-loop-written : goal.decreases-loop-written
decreases-loop-written g l = length l.bytes - l.written
