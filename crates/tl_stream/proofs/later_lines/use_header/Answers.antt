use Rattle.tl_stream.proofs.Names.{◌+◌, ◌≤◌, ◌<◌, ap, arith, length, []}
use Rattle.tl_trace.specs.Inner.Reading.{LineAt}
use Rattle.tl_trace.proofs.Walk.{end_no_memory}
use Rattle.tl_stream.proofs.Between.{inside_held}
use Rattle.tl_stream.proofs.ToRead.{header_unended, header_used}
use Rattle.tl_stream.proofs.later_lines.use_header.Goals as goal

pub returns-then-end-held : goal.returns-then-end-held
returns-then-end-held c left version client manager fresh named =
    let e = c.line_end-end.ensures in
    let bytes = c.held-held.result.now in
    let line : LineAt bytes 0 c.line_end-end.result = record { from = e.from; to = e.to; free = e.free; stop = e.end } in
    let past : length bytes ≤ c.line_end-end.result = omega (arith, c.if-end-held.true, ap length c.held-held.ensures) in (
      ([], fresh.taken),
      end_no_memory,
      header_unended left c.args.input.now version client manager c.line_end-end.result bytes c.held-held.ensures fresh named line past,
    )

pub advance-requires : goal.advance-requires
advance-requires c =
    inside_held c.args.input.now c.held-held.result.now (c.line_end-end.result + 1) c.held-held.ensures c.requires.0 c.requires.1
    (omega (arith, c.if-end-held.false, ap length c.held-held.ensures))

pub returns : goal.returns
returns c =
    let e = c.line_end-end.ensures in
    let a = c.advance.ensures in
    let bytes = c.held-held.result.now in
    let line : LineAt bytes 0 c.line_end-end.result = record { from = e.from; to = e.to; free = e.free; stop = e.end } in
    let lt : c.line_end-end.result < length bytes = omega (arith, c.if-end-held.false, ap length c.held-held.ensures) in
    header_used c.args.input.now c.advance.new.self bytes c.line_end-end.result c.held-held.ensures c.requires.0 c.requires.1 line lt
    a.from a.to a.buffer a.total
