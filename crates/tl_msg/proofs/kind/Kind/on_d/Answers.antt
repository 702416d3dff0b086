-- Search also finds this proof. It is written out so that an incorrect body is refused at once.
use Rattle.std.proofs.Common.{rules}
use Rattle.tl_msg.proofs.kind.Kind.on_d.Goals as goal

pub returns-in-6 : goal.returns-in-6
returns-in-6 c = search rules
