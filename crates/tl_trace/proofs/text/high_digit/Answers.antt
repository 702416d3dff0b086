use Rattle.tl_trace.proofs.Names.{arith}
use Rattle.tl_trace.proofs.Table.{first_of_pair}
use Rattle.tl_trace.proofs.text.high_digit.Goals as goal

pub returns : goal.returns
returns c = first_of_pair c.args.value (omega arith)
