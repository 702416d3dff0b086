use Rattle.tl_trace.proofs.Names.{◌≡◌, ◌*◌, take}
use Rattle.tl_trace.proofs.same_text.repeats_at.Given as goal

abbrev pub invariant-loop-i : goal.invariant-loop-i
invariant-loop-i l = take (8 * l.i) l.one ≡ take (8 * l.i) l.other
