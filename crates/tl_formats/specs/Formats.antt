-- The proved properties of the explanation of a text, in each format (this project's choice).
use Rattle.std.specs.Prelude.{◌≢◌, ◌<◌, ℕ, Bool, List, length, Option, Result, Ok, Err, IfSome}
use Rattle.std.specs.Io.KnownBytes.{Keeps, Appends}
use Rattle.std.specs.Option.{IsSomeAnd}
use Rattle.tl_trace.specs.Faults.{IsFirstFault}
use Rattle.tl_trace.specs.declared.fault.TraceKind.TheVariants as kinds
use Rattle.tl_answer.specs.Texts.{WasReadWhole}
use Rattle.tl_stream.specs.Inputs.{most_bytes}
use Rattle.tl_stream.specs.declared.fault.TextFault.TheVariants as faults
use Rattle.tl_times.specs.Times.{AreTimes, IsFirstBadTime, beats_of}
use Rattle.tl_times.specs.declared.times.TimesFault.{TimesFault}
use Rattle.tl_explain.specs.Explained.{Explains, ShowsAnswer}
use Rattle.tl_explain.specs.declared.display_options.Format.{Format}
use Rattle.tl_explain.specs.declared.display_options.Format.TheVariants.{Text, Json, Page}
use Rattle.tl_formats.specs.declared.fault.ExplainFault.{ExplainFault}
use Rattle.tl_formats.specs.declared.fault.ExplainFault.TheVariants as endings

-- the output is the explanation of a text; or it is JSON or a page, for which only `done` is proved
abbrev pub Shows : Format → (text : List ℕ) (held holds : Option (List ℕ)) (done : Bool) → Type 0
Shows Text text held holds done = Explains text held holds done
Shows Json text held holds done = ShowsAnswer text held holds done
Shows Page text held holds done = ShowsAnswer text held holds done

-- the times of the beats of a trace: if they are given, there is one for each beat, in order
abbrev pub HasTimes : (trace : List ℕ) (times : Option (List ℕ)) → Type 0
HasTimes trace times = IfSome times (λ given. AreTimes given (beats_of trace))

-- the times are given, and this is their first faulty line
abbrev pub HasBadTime : (trace : List ℕ) (times : Option (List ℕ)) → TimesFault → Type 0
HasBadTime trace times fault = IsSomeAnd times (λ given. IsFirstBadTime given (beats_of trace) fault.line fault.kind)

-- An explanation: its format, the times if they are given, the unread bytes of the reader before and after it, the
-- bytes of the writer before and after it, and its result. A text is read to its end, and then its times are checked,
-- before anything is written. The output shows the text, as above. If the text is not a valid trace, the output is some
-- bytes instead, and the result is the first fault of the text. With every other error except a failed write, nothing
-- was written. No explanation ends with `Stalled`. Bytes that the reader or the writer does not reveal are not constrained.
abbrev pub ExplainsText : Format → (times unread left held holds : Option (List ℕ)) → Result Bool ExplainFault → Type 0
ExplainsText format times unread left held holds (Ok done) =
    WasReadWhole unread left × IfSome unread (λ text. HasTimes text times × Shows format text held holds done)
ExplainsText format times unread left held holds (Err (endings.Text (faults.Trace fault))) =
    WasReadWhole unread left × (fault.kind ≢ kinds.OutOfMemory) ×
    IfSome unread (λ text. HasTimes text times × IsFirstFault text fault.line fault.kind) × (shown : List ℕ) × Appends held holds shown
ExplainsText format times unread left held holds (Err (endings.Text faults.Stalled)) = ⊥
ExplainsText format times unread left held holds (Err (endings.Text faults.Read)) = Keeps held holds
ExplainsText format times unread left held holds (Err (endings.Text faults.Write)) =
    WasReadWhole unread left × IfSome unread (λ text. HasTimes text times)
ExplainsText format times unread left held holds (Err (endings.Text faults.TooLong)) =
    Keeps held holds × IfSome unread (λ text. most_bytes < length text)
ExplainsText format times unread left held holds (Err (endings.Text faults.OutOfMemory)) = Keeps held holds
ExplainsText format times unread left held holds (Err (endings.Times fault)) =
    WasReadWhole unread left × Keeps held holds × IsSomeAnd times (λ given. IfSome unread (λ text.
    IsFirstBadTime given (beats_of text) fault.line fault.kind))
