-- Search also finds this proof. It is written out so that an incorrect body is refused at once.
use Rattle.std.proofs.Common.{rules}
use Rattle.tl_msg.proofs.kind.Kind.carries_data.Goals as goal

pub returns-in-PutFullData : goal.returns-in-PutFullData
returns-in-PutFullData c = search rules
