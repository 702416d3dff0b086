use Rattle.tl_bridge.proofs.SideSizes.{client_run_small, manager_run_small}
use Rattle.tl_bridge.proofs.sizes.runs_fit.Goals as goal

pub returns : goal.returns
returns g c = record {
  client = client_run_small g.row.C g.row.M c.requires.0 c.requires.1;
  manager = manager_run_small g.row.C g.row.M c.requires.0 c.requires.1;
}
