use Rattle.tl_trace.proofs.Names.{◌≡◌, length, ◌-◌, AreKnown}
use Rattle.tl_trace.proofs.Pieces.{Walked}
use Rattle.tl_trace.proofs.script_reader.read_beats.Given as goal

abbrev pub invariant-loop-at : goal.invariant-loop-at
invariant-loop-at g l =
    (l.reader.version ≡ l.fn.reader.version) × Walked g.row.VERSION l.piece l.fn.reader.script l.fn.reader.line l.reader.script l.at l.reader.line ×
    AreKnown g.row.VERSION l.piece l.heads

abbrev pub decreases-loop-at : goal.decreases-loop-at
decreases-loop-at g l = length l.initial.piece - l.at
