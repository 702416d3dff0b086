use Rattle.std.proofs.Common.{take}
use Rattle.tl_sides.proofs.noting.note_all.Given as goal

abbrev pub invariant-loop-beat : goal.invariant-loop-beat
invariant-loop-beat g l = g.N.Notes.Becomes l.fn.book (take l.beat-index l.beats) l.book
