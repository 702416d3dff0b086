use Rattle.tl_answer.proofs.Names.{◌∙◌, ap, append_assoc}
use Rattle.tl_answer.proofs.answer.header.Goals as goal

pub returns-in-Ok : goal.returns-in-Ok
returns-in-Ok c = ap (λ v. v.items) c.into_bytes.ensures.value ∙ c.in-Ok.ensures.ok ∙ simp append_assoc
