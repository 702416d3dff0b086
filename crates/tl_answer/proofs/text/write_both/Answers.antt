use Rattle.tl_answer.proofs.Writing.{begun-both, begun-first}
use Rattle.tl_answer.proofs.text.write_both.Goals as goal

pub returns-in-Ok-clause-part : goal.returns-in-Ok-clause-part
returns-in-Ok-clause-part g c =
    begun-both _ _ _ c.args.first.now c.args.second.now c.write_bytes-in-Ok.result c.in-Ok.ensures.all c.write_bytes-in-Ok.ensures.part

pub returns-in-Err-clause-part : goal.returns-in-Err-clause-part
returns-in-Err-clause-part g c = begun-first c.args.first.now c.args.second.now c.in-Err.ensures.part
