-- The number of each fault that C receives is not 0.
use Rattle.std.proofs.Common.{◌≡◌, ◌<◌, ℕ, List, Option, lit<, arith}
use Rattle.tl_trace.specs.Faults.{kind_number}
use Rattle.tl_trace.specs.declared.fault.TraceKind.{TraceKind}
use Rattle.tl_trace.specs.declared.fault.TraceKind.TheVariants as kinds
use Rattle.tl_stream.specs.Faults.{text_fault_number, text_fault_line}
use Rattle.tl_stream.specs.declared.fault.TextFault.{TextFault}
use Rattle.tl_stream.specs.declared.fault.TextFault.TheVariants as faults
use Rattle.tl_answer.specs.Texts.{IsOfText}
use Rattle.tl_c_beats.specs.Blocks.{IsNoBlock}
use Rattle.tl_c_beats.specs.declared.answer_block.AnswerBlock.{AnswerBlock}
use Rattle.tl_answer_c.specs.Calls.{IsOfCall, IsRefusal}

kinds_numbered : (kind : TraceKind) → 0 < kind_number kind
kinds_numbered kinds.Header = lit< tt
kinds_numbered kinds.Channel = lit< tt
kinds_numbered kinds.Length = lit< tt
kinds_numbered kinds.Shape = lit< tt
kinds_numbered kinds.Range = lit< tt
kinds_numbered kinds.NoEnd = lit< tt
kinds_numbered kinds.OutOfMemory = lit< tt

faults_numbered : (fault : TextFault) → 0 < text_fault_number fault
faults_numbered (faults.Trace fault) = kinds_numbered fault.kind
faults_numbered faults.Stalled = lit< tt
faults_numbered faults.Read = lit< tt
faults_numbered faults.Write = lit< tt
faults_numbered faults.TooLong = lit< tt
faults_numbered faults.OutOfMemory = lit< tt

pub no_success : (fault : TextFault) (number : ℕ) → number ≡ text_fault_number fault → number ≡ 0 → ⊥
no_success fault number numbered zero = omega (arith, faults_numbered fault)

-- an error of a run over a text is one of the call
pub of_call : (text : List ℕ) (fault : TextFault) → IsOfText text fault → IsOfCall text fault
of_call text (faults.Trace fault) is = is
of_call text faults.Stalled is = is
of_call text faults.Read is = is
of_call text faults.Write is = is
of_call text faults.TooLong is = absurd is
of_call text faults.OutOfMemory is = is

pub refusal : (text : List ℕ) (fault : TextFault) (number : ℕ) (line : Option ℕ) (block : AnswerBlock) → IsOfCall text fault →
    number ≡ text_fault_number fault → line ≡ text_fault_line fault → IsNoBlock line block → IsRefusal text number block
refusal text fault number line block of_call numbered lined none =
    record { fault = fault; of_call = of_call; numbered = numbered; none = rw (← lined) none }
