use Rattle.tl_answer.proofs.Headers.{short-read}
use Rattle.tl_answer.proofs.threads.lemma_lists_are_short.Goals as goal

pub returns : goal.returns
returns g c =
    let read = c.requires.3 in
    short-read c.requires.0 g.row.C g.row.M read.text read.few c.args.script.now read.told
