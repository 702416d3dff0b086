use Rattle.tl_trace.proofs.Names.{decimal}
use Rattle.std.specs.Prelude.{codes}
use Rattle.tl_msg.specs.Names.{side_fault_name}
use Rattle.tl_trace.proofs.LineText.{spaced}
use Rattle.tl_trace.proofs.write.put_verdict.Goals as goal

pub returns-in-Done : goal.returns-in-Done
returns-in-Done c = record {
  items = rw c.in-Done.is (spaced c.args.text.now.items (codes "done ") (decimal c.in-Done.near) (decimal c.in-Done.far) _
      c.put_counts.ensures.items);
  len = c.put_counts.ensures.len;
}

pub returns-in-Cut : goal.returns-in-Cut
returns-in-Cut c = record {
  items = rw c.in-Cut.is (spaced c.args.text.now.items (codes "cut ") (decimal c.in-Cut.near) (decimal c.in-Cut.far) _
      c.put_counts-in-Cut.ensures.items);
  len = c.put_counts-in-Cut.ensures.len;
}

pub returns-in-Refused : goal.returns-in-Refused
returns-in-Refused c = record {
  items = rw c.in-Refused.is (spaced c.args.text.now.items (codes "refused ") (decimal c.in-Refused.at) (side_fault_name c.in-Refused.fault) _
      (rw c.name.ensures at c.put_fault.ensures.items));
  len = c.put_fault.ensures.len;
}

pub returns-in-Waiting : goal.returns-in-Waiting
returns-in-Waiting c = record {
  items = rw c.in-Waiting.is (spaced c.args.text.now.items (codes "waiting ") (decimal c.in-Waiting.at) (side_fault_name c.in-Waiting.fault) _
      (rw c.name-in-Waiting.ensures at c.put_fault-in-Waiting.ensures.items));
  len = c.put_fault-in-Waiting.ensures.len;
}
