use Rattle.tl_trace.proofs.Names.{arith}
use Rattle.tl_trace.proofs.Table.{second_of_pair}
use Rattle.tl_trace.proofs.text.low_digit.Goals as goal

pub returns : goal.returns
returns c = second_of_pair c.args.value (omega arith)
