use Rattle.std.proofs.Common.{sym, ap}
use Rattle.tl_c_beats.specs.Texts.{status_sentence}
use Rattle.tl_c_beats.proofs.texts.status_sentence.Goals as goal

-- (answered, as an edit turns it)
pub returns-in-21-clause-sentence : goal.returns-in-21-clause-sentence
returns-in-21-clause-sentence c = ap status_sentence (sym c.in-21.is)
