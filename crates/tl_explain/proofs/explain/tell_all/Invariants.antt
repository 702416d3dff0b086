use Rattle.tl_explain.specs.Inner.Explanation.{Continues}
use Rattle.tl_explain.proofs.explain.tell_all.Given as goal

abbrev pub invariant-loop-at : goal.invariant-loop-at
invariant-loop-at g l = Continues l.fn.is_page (g.W.Write.contents l.fn.writer) (g.W.Write.contents l.writer)
