-- Search also finds this proof. It is written out so that an incorrect body is refused at once.
use Rattle.std.proofs.Common.{rules}
use Rattle.tl_msg.proofs.fault.SideFault.name.Goals as goal

pub returns-in-NoRequest : goal.returns-in-NoRequest
returns-in-NoRequest c = search rules
