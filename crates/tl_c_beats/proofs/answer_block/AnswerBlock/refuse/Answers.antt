use Rattle.std.proofs.Common.{refl}
use Rattle.tl_c_beats.proofs.answer_block.AnswerBlock.refuse.Goals as goal

pub returns-clause-number : goal.returns-clause-number
returns-clause-number c = refl
