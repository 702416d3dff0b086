use Rattle.tl_c_beats.specs.Fields.{fields_d}
use Rattle.tl_c.specs.Inboxes.{client_beat}
use Rattle.tl_c.proofs.Emptying.{Filling, taker_d}
use Rattle.tl_c.proofs.inboxes.fill_d.Given as goal

abbrev pub invariant-loop-i : goal.invariant-loop-i
invariant-loop-i l = Filling taker_d (client_beat fields_d) l.fn.side l.side l.fn.beats l.beats l.i
