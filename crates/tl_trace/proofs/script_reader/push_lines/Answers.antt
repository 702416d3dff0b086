use Rattle.tl_trace.proofs.Names.{◌+◌, arith}
use Rattle.tl_trace.proofs.NextLine.{next_line, no_line_yet, none_more, one_more_line}
use Rattle.tl_trace.proofs.script_reader.push_lines.Goals as goal

pub lines-init : goal.lines-init
lines-init g c = (
  no_line_yet (g.K.HeadText.form g.row.VERSION) g.row.W c.args.text.now c.args.at c.args.list.now,
  (c.requires.0, c.in-Some.ensures.head),
)

pub returns-in_default-push_line : goal.returns-in_default-push_line
returns-in_default-push_line g c = record {
  pushed = none_more (g.K.HeadText.form g.row.VERSION) g.row.W c.args.text.now c.args.at c.args.list.now c.lines.list c.push_line.new.list _
      c.in_default-push_line.ensures c.lines.invariant.0;
  known = c.in-Some.ensures.known;
}

pub returns-then-not-repeats_at : goal.returns-then-not-repeats_at
returns-then-not-repeats_at g c = record {
  pushed = one_more_line (g.K.HeadText.form g.row.VERSION) g.row.W c.args.text.now c.args.at c.args.list.now c.lines.list c.push_line.new.list
      c.lines.lines.count c.lines.lines.place c.in-Some-push_line.end c.lines.invariant.0 c.in-Some-push_line.ensures;
  known = c.in-Some.ensures.known;
}

pub lines-preserved : goal.lines-preserved
lines-preserved g c = (
  one_more_line (g.K.HeadText.form g.row.VERSION) g.row.W c.args.text.now c.args.at c.args.list.now c.lines.list c.push_line.new.list
      c.lines.lines.count c.lines.lines.place c.in-Some-push_line.end c.lines.invariant.0 c.in-Some-push_line.ensures,
  next_line (g.K.HeadText.form g.row.VERSION) g.row.VERSION g.row.W c.args.text.now (c.in-Some-push_line.end + 1) c.args.at c.head_end-len.result
      c.in-Some.head c.head_end-len.ensures.end (c.repeats_at.ensures c.if-not-repeats_at.false) c.requires.0 c.in-Some.ensures.head,
)

pub lines-smaller : goal.lines-smaller
lines-smaller g c = omega (arith, c.in-Some-push_line.ensures.from, c.in-Some-push_line.ensures.to)

pub overflow_add-lines : goal.overflow_add-lines
overflow_add-lines g c = omega (arith, c.lines.invariant.0.few, c.in-Some-push_line.ensures.from, c.in-Some-push_line.ensures.to)

pub returns-in_default : goal.returns-in_default
returns-in_default g c = record {
  pushed = no_line_yet (g.K.HeadText.form g.row.VERSION) g.row.W c.args.text.now c.args.at c.args.list.now;
  known = c.in_default.ensures.known;
}

pub returns-then-out_of_memory : goal.returns-then-out_of_memory
returns-then-out_of_memory g c = record {
  pushed = no_line_yet (g.K.HeadText.form g.row.VERSION) g.row.W c.args.text.now c.args.at c.args.list.now;
  known = c.requires.1;
}
