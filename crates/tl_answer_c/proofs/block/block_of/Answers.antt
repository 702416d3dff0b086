use Rattle.tl_answer_c.proofs.Refusals.{of_call}
use Rattle.tl_answer_c.proofs.block.block_of.Goals as goal

pub returns-in-Err-clause-err : goal.returns-in-Err-clause-err
returns-in-Err-clause-err c = of_call _ c.in-Err.fault c.in-Err.ensures.err
