-- The report line of a channel (this project's choice).
use Rattle.std.specs.Prelude.{ℕ, List, ◌∷◌, ◌++◌, codes, decimal}
use Rattle.tl_msg.specs.Names.{side_fault_name}
use Rattle.tl_msg.specs.declared.verdict.Verdict.{Verdict}
use Rattle.tl_msg.specs.declared.verdict.Verdict.TheVariants.{Done, Cut, Refused, Waiting}
use Rattle.tl_trace.specs.Texts.{newline}

-- the numbers of near beats accepted and far beats taken, or the number of near beats accepted and the fault of the
-- next one
abbrev pub verdict_text : Verdict → List ℕ
verdict_text (Done near far) = codes "done " ++ decimal near ++ codes " " ++ decimal far
verdict_text (Cut near far) = codes "cut " ++ decimal near ++ codes " " ++ decimal far
verdict_text (Refused at fault) = codes "refused " ++ decimal at ++ codes " " ++ side_fault_name fault
verdict_text (Waiting at fault) = codes "waiting " ++ decimal at ++ codes " " ++ side_fault_name fault

-- the line of a channel's verdict, with its end
abbrev pub report_line : (letter : ℕ) → Verdict → List ℕ
report_line letter verdict = codes "= " ++ letter ∷ codes " " ++ verdict_text verdict ++ newline
