use Rattle.tl_trace.proofs.Names.{◌≡◌, take, head_text}
use Rattle.tl_trace.proofs.LineRests.{Appended}
use Rattle.tl_trace.proofs.write.write_lines.Given as goal

abbrev pub invariant-loop-beat : goal.invariant-loop-beat
invariant-loop-beat g l =
    (take l.at l.line ≡ head_text (g.K.HeadText.form l.version) l.head) × Appended (g.K.HeadText.form l.version) g.row.W l.fn.out.items
    (take l.beat-index l.beats) l.start l.out.items
