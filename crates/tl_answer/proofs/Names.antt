-- The names that the proofs of this crate use most, from the library and from the definitions, re-exported by one module.
pub use Rattle.std.proofs.Common.{Ok, ◌≡◌, ℕ, Bool, true, false, List, [], ◌∷◌, ◌++◌, length, refl, sym, ap, subst, ◌∙◌, append-nil, arith, ◌≢◌, ◌+◌}
pub use Rattle.std.proofs.Common.{◌-◌, ◌≤◌, take, drop, Option, None, Some, length-append, append_assoc, take-append-drop, ◌<◌, ◌^◌}
pub use Rattle.std.proofs.Common.{zero-le, if◌then◌else◌, ◌||◌, map, replicate, ◌⊎◌, ◌↔◌, inl, inr, nat_eq, lit<}
pub use Rattle.std.proofs.KnownBytes.{Appends-trans}
pub use Rattle.std.proofs.lemmas.Bool.{eqb-true, or_parts}
pub use Rattle.std.proofs.lemmas.List.{length-take-le}
pub use Rattle.std.proofs.lemmas.Result.{IfErr-weaker, on_ok_weaker}
pub use Rattle.std.specs.Io.KnownBytes.{Consumes, IsAtEnd, Appends, Keeps}
pub use Rattle.std.specs.List.{list_all, list_any}
pub use Rattle.std.specs.Prelude.{Result, Err, IfOk, IfSome, OnOk, ◌==◌, IfErr, codes, flat_map}
pub use Rattle.tl_answer.specs.Answer.{far_header, far_lines, near, taken, report, is_done, answer_of, are_done}
pub use Rattle.tl_answer.specs.Inner.Answered.{ReadsAnswer, AnswersRead}
pub use Rattle.tl_answer.specs.Inner.FarTexts.{HasLines}
pub use Rattle.tl_answer.specs.Inner.Consuming.{AreCounted, all_of, Follow, GoesWith}
pub use Rattle.tl_answer.specs.Inner.Parts.{text_of, spelled}
pub use Rattle.tl_answer.specs.Texts.{IsAnswer, AnswersText, IsOfText}
pub use Rattle.tl_check.specs.Judging.{CanJudge, HasJudged}
pub use Rattle.tl_lanes.proofs.Widths.{each_width}
pub use Rattle.tl_lanes.specs.Lanes.{IsWidth}
pub use Rattle.tl_run.proofs.AllOk.{five_ok, four_ok}
pub use Rattle.tl_run.specs.Scripts.{EndsIn}
pub use Rattle.tl_parts.specs.Parts.{near_beats, HasShortLists}
pub use Rattle.tl_run.specs.Streaming.{CanRun, HasRun}
pub use Rattle.tl_settle.specs.Outcomes.{Beats, far_beats, verdicts}
pub use Rattle.tl_stream.specs.Inputs.{IsRefused, held, IsFresh, unread_of, most_bytes}
pub use Rattle.tl_stream.specs.Consuming.{AreFew}
pub use Rattle.tl_stream.specs.declared.fault.TextFault.{TextFault}
pub use Rattle.tl_stream.specs.declared.input.Input.{Input}
pub use Rattle.tl_trace.specs.Faults.{IsFirstFault, body, cut, onto_first, is_newline, header_of, HasHeader, faults_after, faults_of_lines}
pub use Rattle.tl_trace.specs.Fields.{Form, form_a, form_b, form_c, form_d, form_e}
pub use Rattle.tl_trace.specs.Scripts.{IsScriptOf, Discarded, GoesOn, HasCounts, HasGrown, HasRemoved, more_discarded, IsRestOf, none_gone, beat_of_a, beat_of_b}
pub use Rattle.tl_trace.specs.Scripts.{beat_of_c, beat_of_d, beat_of_e}
pub use Rattle.tl_trace.specs.Texts.{Tells, newline}
pub use Rattle.tl_trace.specs.declared.header.Header.{Header}
pub use Rattle.tl_trace.specs.declared.line.Line.{Line}
pub use Rattle.tl_trace.specs.declared.script.Script.{Script}
