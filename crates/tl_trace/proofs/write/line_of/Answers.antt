use Rattle.tl_trace.proofs.Names.{arith, length-take-le}
use Rattle.tl_trace.proofs.write.line_of.Goals as goal

pub slice_bounds-put-end : goal.slice_bounds-put-end
slice_bounds-put-end g c =
    omega (
      arith,
      length-take-le c.fill_line-end.result c.fill_line-end.new.line
          (omega (arith, c.fill_line-end.array_long, c.fill_line-end.ensures.end)),
    )
