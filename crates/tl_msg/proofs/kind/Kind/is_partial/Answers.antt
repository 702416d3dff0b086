-- Search also finds this proof. It is written out so that an incorrect body is refused at once.
use Rattle.std.proofs.Common.{rules}
use Rattle.tl_msg.proofs.kind.Kind.is_partial.Goals as goal

pub returns-in-PutPartialData : goal.returns-in-PutPartialData
returns-in-PutPartialData c = search rules
