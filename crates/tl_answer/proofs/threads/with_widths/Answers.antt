use Rattle.tl_answer.proofs.Names.{false, near_beats, spelled}
use Rattle.tl_answer.proofs.Answering.{script-text, of-both, near-is}
use Rattle.tl_answer.proofs.Whole.{reads_answer}
use Rattle.tl_answer.proofs.threads.with_widths.Goals as goal

pub returns-in-Ok : goal.returns-in-Ok
returns-in-Ok g c =
    let read = c.in-Ok.ensures in
    reads_answer _ _ false _ read.text read.took read.end read.few c.threads_answer_of.result
    (of-both _ _ _ (λ made text-is done-is. script-text c.args.version g.row.C g.row.M read.told.lines read.text read.told.told
    (near_beats c.in-Ok.script) (near-is read.told.lines _ read.told.script) false (spelled made) text-is made.all_done done-is)
    c.threads_answer_of.result c.threads_answer_of.ensures.text c.threads_answer_of.ensures.done)
    c.threads_answer_of.ensures.err
