use Rattle.tl_answer.proofs.Names.{false, all_of, spelled}
use Rattle.tl_answer.proofs.Answering.{of-both, script-text}
use Rattle.tl_answer.proofs.CrossingSize.{crossing_small}
use Rattle.tl_answer.proofs.Consuming.{all-near}
use Rattle.tl_answer.proofs.Whole.{reads_answer}
use Rattle.tl_answer.proofs.crossing.cross.Goals as goal

pub read_through-requires-room-L-BeatConsumer : goal.read_through-requires-room-L-BeatConsumer
read_through-requires-room-L-BeatConsumer g c κs within =
    crossing_small g.row.C g.row.M c.lemma_are_widths.ensures.client c.lemma_are_widths.ensures.manager

pub returns-in-Ok : goal.returns-in-Ok
returns-in-Ok g c =
    let read = c.in-Ok.ensures.ok in
    reads_answer _ _ false c.read_through.new.input read.text read.took read.end read.few c.end.result
    (of-both _ _ _ (λ made text-is done-is. script-text c.args.version g.row.C g.row.M read.lines read.text read.told
    (all_of read.discarded c.in-Ok.last) (all-near read.lines read.discarded c.in-Ok.last read.rest) false (spelled made) text-is made.all_done done-is)
    c.end.result (c.end.ensures.text c.args.version read.discarded read.has_consumed) (c.end.ensures.done c.args.version read.discarded read.has_consumed))
    c.end.ensures.err
