use Rattle.tl_trace.proofs.NextLine.{lines_a, lines_b, lines_c, lines_d, lines_e}
use Rattle.tl_trace.proofs.script_reader.push_next.Goals as goal

pub returns-in-65 : goal.returns-in-65
returns-in-65 g c = record {
  pushed = lines_a g.row.VERSION c.args.text.now c.args.at c.args.script.now _ c.push_lines.result c.requires.0.client
      c.push_lines.ensures.pushed;
  known = record { a = c.push_lines.ensures.known; b = c.requires.2.b; c = c.requires.2.c; d = c.requires.2.d; e = c.requires.2.e };
}

pub returns-in-66 : goal.returns-in-66
returns-in-66 g c = record {
  pushed = lines_b g.row.VERSION c.args.text.now c.args.at c.args.script.now _ c.push_lines-in-66.result c.requires.0.manager
      c.push_lines-in-66.ensures.pushed;
  known = record { a = c.requires.2.a; b = c.push_lines-in-66.ensures.known; c = c.requires.2.c; d = c.requires.2.d; e = c.requires.2.e };
}

pub returns-in-67 : goal.returns-in-67
returns-in-67 g c = record {
  pushed = lines_c g.row.VERSION c.args.text.now c.args.at c.args.script.now _ c.push_lines-in-67.result c.requires.0.client
      c.push_lines-in-67.ensures.pushed;
  known = record { a = c.requires.2.a; b = c.requires.2.b; c = c.push_lines-in-67.ensures.known; d = c.requires.2.d; e = c.requires.2.e };
}

pub returns-in-68 : goal.returns-in-68
returns-in-68 g c = record {
  pushed = lines_d g.row.VERSION c.args.text.now c.args.at c.args.script.now _ c.push_lines-in-68.result c.requires.0.manager
      c.push_lines-in-68.ensures.pushed;
  known = record { a = c.requires.2.a; b = c.requires.2.b; c = c.requires.2.c; d = c.push_lines-in-68.ensures.known; e = c.requires.2.e };
}

pub returns-in-69 : goal.returns-in-69
returns-in-69 g c = record {
  pushed = lines_e g.row.VERSION c.args.text.now c.args.at c.args.script.now _ c.push_lines-in-69.result c.requires.0.client
      c.push_lines-in-69.ensures.pushed;
  known = record { a = c.requires.2.a; b = c.requires.2.b; c = c.requires.2.c; d = c.requires.2.d; e = c.push_lines-in-69.ensures.known };
}
