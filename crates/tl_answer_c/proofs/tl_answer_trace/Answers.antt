use Rattle.std.proofs.Common.{◌∙◌}
use Rattle.tl_answer_c.proofs.Refusals.{no_success, refusal}
use Rattle.tl_answer_c.proofs.tl_answer_trace.Goals as goal

pub returns-in-Err-clause-given : goal.returns-in-Err-clause-given
returns-in-Err-clause-given c = λ zero. absurd (no_success c.in-Err.fault _ (c.refuse.ensures.number ∙ c.number.ensures) zero)

pub returns-in-Err-clause-refused : goal.returns-in-Err-clause-refused
returns-in-Err-clause-refused c = λ nonzero. refusal _ c.in-Err.fault _ _ _ c.in-Err.ensures.err
    (c.refuse.ensures.number ∙ c.number.ensures) c.line.ensures c.refuse.ensures.block
