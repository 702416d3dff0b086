use Rattle.tl_answer.proofs.CrossingSize.{crossing_small}
use Rattle.tl_answer.proofs.crossing.lemma_crossing_fits.Goals as goal

pub returns : goal.returns
returns g c = crossing_small g.row.C g.row.M c.requires.0 c.requires.1
