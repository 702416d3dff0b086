use Rattle.tl_bridge.proofs.Words.{still_sides}
use Rattle.tl_bridge.proofs.thread_rounds.are_sides.Goals as goal

pub returns : goal.returns
returns g c = let were = c.requires in still_sides were.0 c.args.client.now were.1 c.args.manager.now were.3 were.4 were.2
