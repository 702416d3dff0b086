use Rattle.tl_c_beats.specs.Fields.{fields_b}
use Rattle.tl_c.specs.Inboxes.{client_beat}
use Rattle.tl_c.proofs.Emptying.{Filling, taker_b}
use Rattle.tl_c.proofs.inboxes.fill_b.Given as goal

abbrev pub invariant-loop-i : goal.invariant-loop-i
invariant-loop-i l = Filling taker_b (client_beat fields_b) l.fn.side l.side l.fn.beats l.beats l.i
