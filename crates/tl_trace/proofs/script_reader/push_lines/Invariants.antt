use Rattle.tl_trace.proofs.Names.{◌+◌, ◌-◌, length, slice_range, head_length, AreLinesPushed, HasHead}
use Rattle.tl_trace.specs.Inner.Reading.{CanPush}
use Rattle.tl_trace.proofs.script_reader.push_lines.Given as goal

-- the preconditions for the next line, in the form that `push_line` requires
abbrev pub invariant-lines : goal.invariant-lines
invariant-lines g l =
    AreLinesPushed (g.K.HeadText.form g.row.VERSION) g.row.W l.text l.at l.fn.list l.list l.lines
    × (CanPush (g.K.HeadText.form g.row.VERSION) g.row.W l.text l.lines.place × HasHead (g.K.HeadText.form g.row.VERSION) g.row.VERSION
    (slice_range l.text l.lines.place (l.lines.place + head_length (g.K.HeadText.form g.row.VERSION))) l.head)

abbrev pub decreases-lines : goal.decreases-lines
decreases-lines g l = length l.text - l.lines.place
