use Rattle.tl_c_beats.specs.Fields.{fields_e}
use Rattle.tl_c.specs.Inboxes.{manager_beat}
use Rattle.tl_c.proofs.Emptying.{Filling, taker_e}
use Rattle.tl_c.proofs.inboxes.fill_e.Given as goal

abbrev pub invariant-loop-i : goal.invariant-loop-i
invariant-loop-i l = Filling taker_e (manager_beat fields_e) l.fn.side l.side l.fn.beats l.beats l.i
