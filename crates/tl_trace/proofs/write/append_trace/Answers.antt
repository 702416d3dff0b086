use Rattle.tl_trace.proofs.Names.{◌∙◌, arith, length-take-le}
use Rattle.tl_trace.proofs.TraceLines.{written_none, written_more, written_all}
use Rattle.tl_trace.proofs.Widths.{width_most}
use Rattle.tl_trace.proofs.write.append_trace.Goals as goal

pub loop-line-init : goal.loop-line-init
loop-line-init c =
    written_none c.args.trace.now.version c.args.trace.now.client c.args.trace.now.manager c.args.trace.now.lines.items _ c.args.out.now.items
    c.extend_from_slice.new.self.items c.push.new.self.items
    (c.as_slice.ensures.value ∙ c.header_text-header.ensures) c.requires c.in-Ok.ensures.items c.in-Ok-push.ensures.items

pub bounds-line-items-line-index : goal.bounds-line-items-line-index
bounds-line-items-line-index c = c.loop-line-test.true

pub fill_line_of-end-requires : goal.fill_line_of-end-requires
fill_line_of-end-requires c = record {
  client = width_most c.args.trace.now.version c.args.trace.now.client c.args.trace.now.kept.client_width;
  manager = width_most c.args.trace.now.version c.args.trace.now.manager c.args.trace.now.kept.manager_width;
}

pub loop-line-preserved : goal.loop-line-preserved
loop-line-preserved c =
    written_more c.args.trace.now.version c.args.trace.now.client c.args.trace.now.manager c.args.trace.now.lines.items c.deref-line-items.result.now
    c.loop-line.line-index _ _ c.loop-line.out.items
    c.extend_from_slice-in-loop-line.new.self.items c.loop-line-test.true c.deref-line-items.ensures.value c.fill_line_of-end.ensures.items
    c.in-Ok-extend_from_slice.ensures.items c.loop-line.invariant

-- at the end of the loop all lines were written
pub returns : goal.returns
returns c =
    written_all c.args.trace.now.version c.args.trace.now.client c.args.trace.now.manager c.args.trace.now.lines.items c.deref-line-items.result.now
    c.loop-line.out.items c.loop-line.line-index
    c.deref-line-items.ensures.value c.loop-line-test.false c.loop-line.invariant

pub slice_bounds-extend_from_slice-end : goal.slice_bounds-extend_from_slice-end
slice_bounds-extend_from_slice-end c =
    omega (
      arith,
      length-take-le c.fill_line_of-end.result c.fill_line_of-end.new.room (omega (
        arith,
        c.fill_line_of-end.array_long,
        c.fill_line_of-end.ensures.end,
      )),
    )
