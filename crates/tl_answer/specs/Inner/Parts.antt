-- An answer in parts, and its text. Only private contracts use these words.
use Rattle.std.specs.Prelude.{◌++◌, ℕ, List, [], Bool, cond}
use Rattle.tl_settle.specs.Outcomes.{Beats, far_beats, verdicts}
use Rattle.tl_answer.specs.Answer.{far_header, far_lines, report}
use Rattle.tl_answer.specs.declared.parts.AnswerParts.{AnswerParts}

-- the text of the parts, one after the other
abbrev pub spelled : AnswerParts → List ℕ
spelled answer = answer.a.items ++ answer.b.items ++ answer.c.items ++ answer.d.items ++ answer.e.items

-- the answer to these near beats; a check leaves out the far beats
abbrev pub text_of : {C M : ℕ} → (version : ℕ) → Beats C M → (check : Bool) → List ℕ
text_of {C = C} {M = M} version bs check = far_header version C M ++ cond check [] (far_lines version (far_beats bs)) ++ report (verdicts bs)
