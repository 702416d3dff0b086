-- Search also finds this proof. It is written out so that an incorrect body is refused at once.
use Rattle.std.proofs.Common.{rules}
use Rattle.tl_msg.proofs.fault.BeatFault.number.Goals as goal

pub returns-in-Mask : goal.returns-in-Mask
returns-in-Mask c = search rules
