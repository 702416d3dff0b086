-- A text that was read to its end, and its answer, before anything is written. Only private contracts use these words.
use Rattle.std.specs.Prelude.{◌≢◌, ◌≤◌, ◌<◌, ℕ, List, length, Option, Result, Ok, Err, IfSome, Bool}
use Rattle.std.specs.Io.KnownBytes.{IsAtEnd}
use Rattle.tl_order.specs.Orders.{is_check}
use Rattle.tl_order.specs.declared.Order.{Order}
use Rattle.tl_trace.specs.Faults.{IsFirstFault}
use Rattle.tl_trace.specs.declared.fault.TraceKind.TheVariants as kinds
use Rattle.tl_answer.specs.Inner.Parts.{spelled}
use Rattle.tl_trace.specs.declared.script.Script.{Script}
use Rattle.tl_stream.specs.Inputs.{IsRefused, IsScriptRead, most_bytes}
use Rattle.tl_answer.specs.Texts.{WasReadWhole, IsAnswer}
use Rattle.tl_stream.specs.declared.fault.TextFault.{TextFault}
use Rattle.tl_stream.specs.declared.fault.TextFault.TheVariants as faults
use Rattle.tl_stream.specs.declared.input.Input.{Input}
use Rattle.tl_answer.specs.declared.parts.AnswerParts.{AnswerParts}

-- a script that was read from a text to its end
abbrev pub WasRead : {C M : ℕ} → Script C M → Type 0
WasRead s = (version : ℕ) × (unread left : Option (List ℕ)) × IsScriptRead unread left version s

-- the text was read to its end, and this is its answer
pub record IsAnswerRead (unread left : Option (List ℕ)) (check : Bool) (made : AnswerParts) : Type 0 where
  pub end : IsAtEnd left
  pub few : IfSome unread (λ text. length text ≤ most_bytes)
  pub answer : IfSome unread (λ text. IsAnswer text check (spelled made) made.all_done)

-- the result of reading a text and running its script
abbrev pub ReadsAnswer : (unread left : Option (List ℕ)) (check : Bool) → Input → Result AnswerParts TextFault → Type 0
ReadsAnswer unread left check input (Ok made) = IsAnswerRead unread left check made
ReadsAnswer unread left check input (Err fault) = IsRefused unread left input fault

-- what the reader had and has left, the order, and the result
abbrev pub AnswersRead : (unread left : Option (List ℕ)) → Order → Result AnswerParts TextFault → Type 0
AnswersRead unread left order (Ok made) = WasReadWhole unread left ×
    IfSome unread (λ text. IsAnswer text (is_check order) (spelled made) made.all_done)
AnswersRead unread left order (Err (faults.Trace fault)) = WasReadWhole unread left × (fault.kind ≢ kinds.OutOfMemory) ×
    IfSome unread (λ text. IsFirstFault text fault.line fault.kind)
AnswersRead unread left order (Err faults.Stalled) = ⊥
AnswersRead unread left order (Err faults.Read) = Unit {0}
AnswersRead unread left order (Err faults.Write) = ⊥
AnswersRead unread left order (Err faults.TooLong) = IfSome unread (λ text. most_bytes < length text)
AnswersRead unread left order (Err faults.OutOfMemory) = Unit {0}
