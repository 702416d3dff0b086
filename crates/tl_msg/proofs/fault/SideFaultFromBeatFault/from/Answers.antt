-- Search also finds this proof. It is written out so that an incorrect body is refused at once.
use Rattle.std.proofs.Common.{rules}
use Rattle.tl_msg.proofs.fault.SideFaultFromBeatFault.from.Goals as goal

pub returns : goal.returns
returns c = search rules
