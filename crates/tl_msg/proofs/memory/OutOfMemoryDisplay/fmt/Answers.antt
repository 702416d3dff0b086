-- Search also finds this proof. It is written out so that an incorrect body is refused at once.
use Rattle.std.proofs.Common.{rules}
use Rattle.tl_msg.proofs.memory.OutOfMemoryDisplay.fmt.Goals as goal

pub returns-clause-writes : goal.returns-clause-writes
returns-clause-writes g c = search rules
