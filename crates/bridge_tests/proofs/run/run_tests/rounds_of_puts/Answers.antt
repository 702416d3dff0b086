use Rattle.tl_ring.proofs.FieldSizes.{beat_small}
use Rattle.bridge_tests.proofs.run.run_tests.rounds_of_puts.Goals as goal

pub put_all-is_made-requires : goal.put_all-is_made-requires
put_all-is_made-requires g c = beat_small g.row.C c.requires.client
