use Rattle.tl_answer.proofs.Whole.{header_refused}
use Rattle.tl_answer.proofs.threads.answer_by_threads.Goals as goal

pub returns-in-Err : goal.returns-in-Err
returns-in-Err g c = header_refused _ c.args.input.now c.requires.0 c.held.result.now c.held.ensures c.in-Err.fault c.in-Err.ensures.err
