use Rattle.tl_run.proofs.Names.{lit<, refl, bridge_small}
use Rattle.tl_run.proofs.sync_run.run_into_lists.Goals as goal

pub new-requires : goal.new-requires
new-requires g c = (bridge_small g.row.C g.row.M c.requires.0.client c.requires.0.manager, (c.requires.0.client, c.requires.0.manager))

pub run_rounds-end-requires : goal.run_rounds-end-requires
run_rounds-end-requires g c = (
  bridge_small g.row.C g.row.M c.requires.0.client c.requires.0.manager,
  (
    lit< tt,
    (
      lit< tt,
      (
        c.requires.0,
        c.requires.1,
        (c.args.ring, (c.in-Ok.ensures.size refl).0, c.in-Ok.ensures.new),
        c.requires.2,
        c.requires.3,
      ),
    ),
  ),
)

pub discard-requires : goal.discard-requires
discard-requires g c = bridge_small g.row.C g.row.M c.requires.0.client c.requires.0.manager

pub returns : goal.returns
returns g c = record {
  ended = (c.run_rounds-end.new.bridge, c.run_rounds-end.ensures.ended);
  each = c.run_rounds-end.ensures.each;
  exact = c.run_rounds-end.ensures.exact c.args.ring (c.in-Ok.ensures.size refl).0 c.in-Ok.ensures.new;
  size = λ _. c.in-Ok.ensures.size refl;
  memory = tt;
}
