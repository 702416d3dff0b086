use Rattle.std.proofs.Common.{refl, arith}
use Rattle.tl_explain.proofs.letters.form_of.Goals as goal

pub at_width-form_on-requires-3 : goal.at_width-form_on-requires-3
at_width-form_on-requires-3 c = (2, omega arith, refl)

pub at_width-form_on-requires-4 : goal.at_width-form_on-requires-4
at_width-form_on-requires-4 c = (3, omega arith, refl)

pub at_width-form_on-requires-5 : goal.at_width-form_on-requires-5
at_width-form_on-requires-5 c = (4, omega arith, refl)

pub at_width-form_on-requires-6 : goal.at_width-form_on-requires-6
at_width-form_on-requires-6 c = (5, omega arith, refl)

pub at_width-form_on-requires-7 : goal.at_width-form_on-requires-7
at_width-form_on-requires-7 c = (6, omega arith, refl)
