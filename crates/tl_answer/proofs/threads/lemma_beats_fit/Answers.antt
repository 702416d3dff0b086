use Rattle.tl_ring.proofs.FieldSizes.{beat_small}
use Rattle.tl_answer.proofs.threads.lemma_beats_fit.Goals as goal

pub returns : goal.returns
returns g c = record { client = beat_small g.row.C c.requires.0; manager = beat_small g.row.M c.requires.1 }
