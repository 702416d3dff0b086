use Rattle.tl_trace.proofs.write.write_trace.Goals as goal

pub append_trace-requires : goal.append_trace-requires
append_trace-requires c = c.new-out.ensures.items
