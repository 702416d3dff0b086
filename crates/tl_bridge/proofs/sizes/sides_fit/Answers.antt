use Rattle.tl_bridge.proofs.Words.{client_small, manager_small}
use Rattle.tl_bridge.proofs.sizes.sides_fit.Goals as goal

pub returns : goal.returns
returns g c = record {
  client = client_small g.row.C g.row.M c.requires.0 c.requires.1;
  manager = manager_small g.row.C g.row.M c.requires.0 c.requires.1;
}
