-- The names of the faults of a text that C receives are those that the program writes.
use Rattle.std.proofs.Common.{◌≡◌, refl}
use Rattle.tl_trace.specs.Faults.{kind_number, kind_name}
use Rattle.tl_trace.specs.declared.fault.TraceKind.{TraceKind}
use Rattle.tl_trace.specs.declared.fault.TraceKind.TheVariants as kinds
use Rattle.tl_stream.specs.Faults.{text_fault_number, text_fault_name}
use Rattle.tl_stream.specs.declared.fault.TextFault.{TextFault}
use Rattle.tl_stream.specs.declared.fault.TextFault.TheVariants as faults
use Rattle.tl_c_beats.specs.Texts.{status_name}

kinds_named : (kind : TraceKind) → status_name (kind_number kind) ≡ kind_name kind
kinds_named kinds.Header = refl
kinds_named kinds.Channel = refl
kinds_named kinds.Length = refl
kinds_named kinds.Shape = refl
kinds_named kinds.Range = refl
kinds_named kinds.NoEnd = refl
kinds_named kinds.OutOfMemory = refl

pub faults_named : (fault : TextFault) → status_name (text_fault_number fault) ≡ text_fault_name fault
faults_named (faults.Trace fault) = kinds_named fault.kind
faults_named faults.Stalled = refl
faults_named faults.Read = refl
faults_named faults.Write = refl
faults_named faults.TooLong = refl
faults_named faults.OutOfMemory = refl
