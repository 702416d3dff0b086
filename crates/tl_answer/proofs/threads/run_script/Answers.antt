use Rattle.tl_answer.proofs.Running.{size-is-right, for-memory}
use Rattle.tl_answer.proofs.threads.run_script.Goals as goal

pub returns-clause-err : goal.returns-clause-err
returns-clause-err g c =
    let size = c.ring-ring.ensures.size c.requires.3 in
    for-memory c.run_threads.result (size-is-right c.run_threads.result c.ring-ring.result size.0 size.1 c.run_threads.ensures.ring_size)
    c.run_threads.ensures.never_stalled
