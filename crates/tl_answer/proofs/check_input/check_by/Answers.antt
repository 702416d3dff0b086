use Rattle.tl_answer.proofs.Names.{true, ap, Beats, verdicts, CanJudge, HasJudged, all_of, spelled}
use Rattle.tl_answer.proofs.Answering.{checks-text, of-both}
use Rattle.tl_answer.proofs.Consuming.{all-near, are-end, has-all}
use Rattle.tl_answer.proofs.Whole.{reads_answer}
use Rattle.tl_answer.proofs.check_input.check_by.Goals as goal

pub returns-in-Ok : goal.returns-in-Ok
returns-in-Ok g c =
    let read = c.in-Ok.ensures.ok in
    let judge = c.read_through.new.consumer in
    let s = c.in-Ok.last in
    let Has : Beats g.row.C g.row.M → Type 0 = λ beats. HasJudged beats judge in
    let near = all_of read.discarded s in
    let ends = are-end (CanJudge judge) Has judge.discarded read.discarded s read.has_consumed in
    let has = has-all (CanJudge judge) Has judge.discarded read.discarded s read.has_consumed in
    reads_answer _ _ true c.read_through.new.input read.text read.took read.end read.few c.end_of.result
    (of-both _ _ _ (λ made text-is done-is. checks-text c.args.version g.row.C g.row.M read.lines read.text read.told (verdicts near)
    (ap (λ beats. verdicts beats) (all-near read.lines read.discarded s read.rest)) (spelled made) text-is made.all_done done-is)
    c.end_of.result (c.end_of.ensures.text near ends has) (c.end_of.ensures.done near ends has))
    c.end_of.ensures.err
