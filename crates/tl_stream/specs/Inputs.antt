-- The part of a text that has been read, for a text that is read incrementally (this project's choice).
use Rattle.std.specs.Prelude.{◌≡◌, ◌≢◌, ◌≤◌, ◌<◌, ◌++◌, ℕ, List, [], length, slice_range, Option, Result, Ok, Err, IfSome}
use Rattle.std.specs.Io.KnownBytes.{Consumes, IsAtEnd, prepend_known}
use Rattle.tl_trace.specs.Scripts.{TellsScript}
use Rattle.tl_trace.specs.Faults.{IsFirstFault}
use Rattle.tl_trace.specs.declared.fault.TraceKind.TheVariants as kinds
use Rattle.tl_trace.specs.declared.places.TheConstants.{LONGEST_LINE}
use Rattle.tl_trace.specs.declared.script.Script.{Script}
use Rattle.tl_stream.specs.declared.fault.TextFault.{TextFault}
use Rattle.tl_stream.specs.declared.fault.TextFault.TheVariants as faults
use Rattle.tl_stream.specs.declared.input.Input.{Input}

-- the largest number of bytes of a text
abbrev pub most_bytes : ℕ
most_bytes = 67108864

-- the bytes that were read and are not used yet
abbrev pub held : Input → List ℕ
held input = slice_range input.buffer.items input.from input.to

-- `used` is the part of the reader's bytes that was used, and the input holds the bytes that were read after it. If its
-- buffer is not full, the reader is at its end. The buffer has the capacity for a line
pub record HasTaken (unread left : Option (List ℕ)) (used : List ℕ) (input : Input) : Type 0 where
  pub took : Consumes unread left (used ++ held input)
  pub count : input.total ≡ length (used ++ held input)
  pub few : input.total ≤ most_bytes
  pub from : input.from ≤ input.to
  pub to : input.to ≤ length input.buffer.items
  pub end : input.to ≢ length input.buffer.items → IsAtEnd left
  pub room : LONGEST_LINE < length input.buffer.items

-- the bytes that the reader had before the input took those that it holds
abbrev pub unread_of : Input → (left : Option (List ℕ)) → Option (List ℕ)
unread_of input left = prepend_known (held input) left

-- the input holds the beginning of a text, and nothing of it is used
pub record IsFresh (left : Option (List ℕ)) (input : Input) : Type 0 where
  pub taken : HasTaken (unread_of input left) left [] input
  pub first : input.from ≡ 0

-- the reasons why a text has no answer, found before anything is written: its first fault, which may come before its
-- end, or a fault of reading
abbrev pub IsRefused : (unread left : Option (List ℕ)) → Input → TextFault → Type 0
IsRefused unread left input (faults.Trace fault) =
    ((used : List ℕ) × HasTaken unread left used input) × (fault.kind ≢ kinds.OutOfMemory) ×
    IfSome unread (λ text. IsFirstFault text fault.line fault.kind)
IsRefused unread left input faults.Stalled = ⊥
IsRefused unread left input faults.Read = Unit {0}
IsRefused unread left input faults.Write = ⊥
IsRefused unread left input faults.TooLong = IfSome unread (λ text. most_bytes < length text)
IsRefused unread left input faults.OutOfMemory = Unit {0}

-- the text was read to its end, and this is its script
pub record IsScriptRead {client manager : ℕ} (unread left : Option (List ℕ)) (version : ℕ) (s : Script client manager) : Type 0 where
  pub text : List ℕ
  pub took : Consumes unread left text
  pub end : IsAtEnd left
  pub few : length text ≤ most_bytes
  pub told : TellsScript version text s

-- the result of reading a script
abbrev pub ReadsScript : {client manager : ℕ} → (unread left : Option (List ℕ)) (version : ℕ) → Input →
    Result (Script client manager) TextFault → Type 0
ReadsScript unread left version input (Ok s) = IsScriptRead unread left version s
ReadsScript unread left version input (Err fault) = IsRefused unread left input fault
