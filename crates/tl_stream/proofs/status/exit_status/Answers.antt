use Rattle.tl_stream.proofs.Names.{rules}
use Rattle.tl_stream.proofs.status.exit_status.Goals as goal

pub returns-in-Ok-false : goal.returns-in-Ok-false
returns-in-Ok-false c = search rules
