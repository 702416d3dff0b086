use Rattle.tl_trace.proofs.Names.{arith}
use Rattle.tl_trace.proofs.LineEnds.{free_none, free_more}
use Rattle.tl_trace.proofs.reader.line_end.Goals as goal

pub loop-end-init : goal.loop-end-init
loop-end-init c = free_none c.args.text.now c.args.at c.requires

pub returns-then-text-end-eq10-clause-end : goal.returns-then-text-end-eq10-clause-end
returns-then-text-end-eq10-clause-end c = λ _. c.if-text-end-eq10.true

pub loop-end-preserved : goal.loop-end-preserved
loop-end-preserved c = free_more c.args.text.now c.args.at c.loop-end.end c.loop-end-test.true c.if-text-end-eq10.false c.loop-end.invariant

pub returns-clause-end : goal.returns-clause-end
returns-clause-end c = λ less. absurd (omega (arith, c.loop-end-test.false))
