use Rattle.std.proofs.Common.{sym, ap}
use Rattle.tl_c_beats.specs.Texts.{status_name}
use Rattle.tl_c_beats.proofs.texts.status_name.Goals as goal

-- (answered, as an edit turns it)
pub returns-in-11-clause-name : goal.returns-in-11-clause-name
returns-in-11-clause-name c = ap status_name (sym c.in-11.is)
