-- Written out so that an incorrect number is refused at once.
use Rattle.tl_msg.proofs.kind.Kind.params.Goals as goal

pub returns-in-Intent : goal.returns-in-Intent
returns-in-Intent c = rw c.in-Intent.is
