-- A consumer while a text is read. Only private contracts cite these words.
use Rattle.std.specs.Prelude.{ℕ, Bool, List, Option, Result, Ok, Err}
use Rattle.tl_trace.specs.Scripts.{Discarded}
use Rattle.tl_trace.specs.declared.script.Script.{Script}
use Rattle.tl_trace.specs.declared.script.Counts.{Counts}
use Rattle.tl_trace.specs.declared.script_reader.ScriptReader.{ScriptReader}
use Rattle.tl_stream.specs.Inner.Lines.{HasReadHeld}
use Rattle.tl_stream.specs.Inputs.{IsRefused}
use Rattle.tl_stream.specs.Consuming.{IsConsumedInPieces, IsReadThrough}
use Rattle.tl_stream.specs.declared.fault.TextFault.{TextFault}
use Rattle.tl_stream.specs.declared.input.Input.{Input}

-- a consumer can advance over the lines that the input holds, once they are read
abbrev pub CanConsume : {L : Type 0} {C M : ℕ} (HasConsumed : ℕ → L → Discarded C M → Script C M → Type 0) → ScriptReader C M → Input → L → Type 0
CanConsume {L} {C} {M} HasConsumed lines input consumer = (lines' : ScriptReader C M) (input' : Input) (more : Bool) →
    HasReadHeld lines input lines' input' more → (version : ℕ) × (discarded : Discarded C M) × HasConsumed version consumer discarded lines'.script

-- the result of reading a text with a consumer
abbrev pub ReadsThrough : {L : Type 0} {C M : ℕ} (HasConsumed : L → Discarded C M → Script C M → Type 0)
    (ConsumesOn : L → L → Script C M → Counts → Type 0) (most : ℕ) (new : L) (unread left : Option (List ℕ)) (version : ℕ) (consumer : L)
    (s : Script C M) → Input → Result (Unit {0}) TextFault → Type 0
ReadsThrough HasConsumed ConsumesOn most new unread left version consumer s input (Ok _) =
    IsReadThrough HasConsumed unread left version consumer s × IsConsumedInPieces ConsumesOn version most new unread left consumer s
ReadsThrough HasConsumed ConsumesOn most new unread left version consumer s input (Err fault) = IsRefused unread left input fault
