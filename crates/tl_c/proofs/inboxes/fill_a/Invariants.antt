use Rattle.tl_c_beats.specs.Fields.{fields_a}
use Rattle.tl_c.specs.Inboxes.{manager_beat}
use Rattle.tl_c.proofs.Emptying.{Filling, taker_a}
use Rattle.tl_c.proofs.inboxes.fill_a.Given as goal

abbrev pub invariant-loop-i : goal.invariant-loop-i
invariant-loop-i l = Filling taker_a (manager_beat fields_a) l.fn.side l.side l.fn.beats l.beats l.i
