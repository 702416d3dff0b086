-- The answer to a text (this project's choice). It has a line with the version and the widths of the trace, then the
-- beats that arrive on the other side, and then one line for each channel that reports how far it got.
use Rattle.std.specs.Prelude.{◌++◌, ℕ, Bool, true, false, cond, List, [], ◌∷◌, codes, decimal}
use Rattle.std.specs.List.{filter_map, list_all}
use Rattle.tl_msg.specs.declared.verdict.Verdict.{Verdict}
use Rattle.tl_msg.specs.declared.verdict.Verdict.TheVariants.{Done}
use Rattle.tl_settle.specs.Outcomes.{Beats, far_beats, verdicts}
use Rattle.tl_run.specs.declared.outcome.Outcome.{Outcome}
use Rattle.tl_trace.specs.Fields.{form_a, form_b, form_c, form_d, form_e}
use Rattle.tl_trace.specs.Lines.{beats_text}
use Rattle.tl_trace.specs.Texts.{newline}
use Rattle.tl_trace.specs.Scripts.{beat_of_a, beat_of_b, beat_of_c, beat_of_d, beat_of_e}
use Rattle.tl_trace.specs.Reports.{report_line}
use Rattle.tl_trace.specs.declared.line.Line.{Line}

-- the first line, with its end
abbrev pub far_header : (version client manager : ℕ) → List ℕ
far_header version client manager =
    codes "tilelink-far " ++ decimal version ++ codes " client " ++ decimal client ++ codes " manager " ++ decimal manager ++ newline

-- the far beats that a run took
abbrev pub taken : {C M : ℕ} → Outcome C M → Beats M C
taken outcome = record { a = outcome.a.items; b = outcome.b.items; c = outcome.c.items; d = outcome.d.items; e = outcome.e.items }

-- the far beats of A, then those of B, C, D and E, on each channel in the order in which they are taken. The manager
-- side takes A, C and E on its own lanes, and the client side takes B and D. Ids have the digits of a trace of this
-- version
abbrev pub far_lines : {C M : ℕ} → (version : ℕ) → Beats M C → List ℕ
far_lines {C = C} {M = M} version far =
    beats_text (form_a version) M far.a ++ beats_text (form_b version) C far.b ++ beats_text (form_c version) M far.c ++
    beats_text (form_d version) C far.d ++ beats_text (form_e version) M far.e

-- one line for each channel, A to E
abbrev pub report : List Verdict → List ℕ
report (a ∷ b ∷ c ∷ d ∷ e ∷ []) = report_line 65 a ++ report_line 66 b ++ report_line 67 c ++ report_line 68 d ++ report_line 69 e
report _ = []

-- all beats of a channel were accepted, and no burst is unfinished
abbrev pub is_done : Verdict → Bool
is_done (Done near far) = true
is_done _ = false

-- the two sides' widths and the beats of a trace
module _ (client manager : ℕ) (lines : List Line) where
  -- its near beats by channel, each list in the order of the lines
  abbrev pub near : Beats client manager
  near = record {
    a = filter_map (beat_of_a client) lines;
    b = filter_map (beat_of_b manager) lines;
    c = filter_map (beat_of_c client) lines;
    d = filter_map (beat_of_d manager) lines;
    e = filter_map (beat_of_e client) lines;
  }

  -- all five channels are done
  abbrev pub are_done : Bool
  are_done = list_all is_done (verdicts near)

-- the whole answer to a trace; a check leaves out the far beats
abbrev pub answer_of : (version client manager : ℕ) → List Line → (check : Bool) → List ℕ
answer_of version client manager lines check =
    far_header version client manager ++ cond check [] (far_lines version (far_beats (near client manager lines))) ++
    report (verdicts (near client manager lines))
