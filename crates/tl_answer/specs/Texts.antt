-- The effect of a run over a text on its reader and its writer (this project's choice).
use Rattle.std.specs.Prelude.{◌≡◌, ◌≢◌, ◌≤◌, ◌<◌, ℕ, List, length, Option, Result, Ok, Err, IfSome, Bool}
use Rattle.std.specs.Io.KnownBytes.{Keeps, Appends, IsAtEnd}
use Rattle.tl_order.specs.Orders.{is_check}
use Rattle.tl_order.specs.declared.Order.{Order}
use Rattle.tl_trace.specs.Texts.{Tells}
use Rattle.tl_trace.specs.Faults.{IsFirstFault}
use Rattle.tl_trace.specs.declared.line.Line.{Line}
use Rattle.tl_trace.specs.declared.fault.TraceKind.TheVariants as kinds
use Rattle.tl_answer.specs.Answer.{answer_of, are_done}
use Rattle.tl_stream.specs.Inputs.{most_bytes}
use Rattle.tl_stream.specs.Outputs.{AppendsPart}
use Rattle.tl_stream.specs.declared.fault.TextFault.{TextFault}
use Rattle.tl_stream.specs.declared.fault.TextFault.TheVariants as faults

-- the text is that of a trace, `answer` is the answer to it, and `done` is whether all channels are done
pub record IsAnswer (text : List ℕ) (check : Bool) (answer : List ℕ) (done : Bool) : Type 0 where
  pub version : ℕ
  pub client : ℕ
  pub manager : ℕ
  pub lines : List Line
  pub told : Tells text version client manager lines
  pub answered : answer ≡ answer_of version client manager lines check
  pub all_done : done ≡ are_done client manager lines

-- the reader returned all that it had, and that was not too long
abbrev pub WasReadWhole : (unread left : Option (List ℕ)) → Type 0
WasReadWhole unread left = IsAtEnd left × IfSome unread (λ text. length text ≤ most_bytes)

-- The arguments are what the reader had and has left, what the writer held and holds, the order, and how the run ended.
-- A text is read to its end before anything of its answer is written. The bytes that are written are its answer, or if a
-- write fails, the first bytes of it. A run that fails before has written nothing. No run stalls. Statements about bytes hold only if the logic knows the
-- bytes of the reader or the writer
abbrev pub AnswersText : (unread left held holds : Option (List ℕ)) → Order → Result Bool TextFault → Type 0
AnswersText unread left held holds order (Ok done) =
    WasReadWhole unread left × IfSome unread (λ text. (answer : List ℕ) × IsAnswer text (is_check order) answer done × Appends held holds answer)
AnswersText unread left held holds order (Err (faults.Trace fault)) =
    WasReadWhole unread left × Keeps held holds × (fault.kind ≢ kinds.OutOfMemory) × IfSome unread (λ text. IsFirstFault text fault.line fault.kind)
AnswersText unread left held holds order (Err faults.Stalled) = ⊥
AnswersText unread left held holds order (Err faults.Read) = Keeps held holds
AnswersText unread left held holds order (Err faults.Write) =
    WasReadWhole unread left × IfSome unread (λ text. (answer : List ℕ) × (done : Bool) × IsAnswer text (is_check order) answer done ×
    AppendsPart held holds answer)
AnswersText unread left held holds order (Err faults.TooLong) = Keeps held holds × IfSome unread (λ text. most_bytes < length text)
AnswersText unread left held holds order (Err faults.OutOfMemory) = Keeps held holds

-- the errors that a text by itself can cause: its own fault, or out of memory
abbrev pub IsOfText : (text : List ℕ) → TextFault → Type 0
IsOfText text (faults.Trace fault) = (fault.kind ≢ kinds.OutOfMemory) × IsFirstFault text fault.line fault.kind
IsOfText text faults.Stalled = ⊥
IsOfText text faults.Read = ⊥
IsOfText text faults.Write = ⊥
IsOfText text faults.TooLong = ⊥
IsOfText text faults.OutOfMemory = Unit {0}
