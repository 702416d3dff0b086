use Rattle.tl_sides.proofs.BridgeSize.{bridge_small}
use Rattle.tl_answer.proofs.CrossingSize.{run_small}
use Rattle.tl_answer.proofs.crossing.lemma_run_fits.Goals as goal

pub returns : goal.returns
returns g c = record {
  run = run_small g.row.C g.row.M c.requires.0 c.requires.1;
  bridge = bridge_small g.row.C g.row.M c.requires.0 c.requires.1;
}
