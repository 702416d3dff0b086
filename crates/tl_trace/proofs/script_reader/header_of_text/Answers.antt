use Rattle.tl_trace.proofs.Names.{◌∙◌, sym, ap, header_of, LineAt}
use Rattle.tl_trace.proofs.Headers.{from_start}
use Rattle.tl_trace.proofs.ReadBeats.{first_line}
use Rattle.tl_trace.proofs.script_reader.header_of_text.Goals as goal

pub returns : goal.returns
returns c =
    let e = c.line_end.ensures in
    let line : LineAt c.args.text.now 0 c.line_end.result = record { from = e.from; to = e.to; free = e.free; stop = e.end } in
    sym (ap header_of (first_line c.args.text.now c.line_end.result line) ∙ from_start c.args.text.now c.line_end.result _ c.header_of.ensures)
