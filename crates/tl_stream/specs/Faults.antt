-- The numbers and names of faults (this project's choice).
use Rattle.std.specs.Prelude.{ℕ, List, Option, None, Some, codes}
use Rattle.tl_trace.specs.Faults.{kind_number, kind_name}
use Rattle.tl_trace.specs.declared.fault.TraceFault.{TraceFault}
use Rattle.tl_trace.specs.declared.fault.TraceKind.{TraceKind}
use Rattle.tl_trace.specs.declared.fault.TraceKind.TheVariants as kinds
use Rattle.tl_stream.specs.declared.fault.TextFault.{TextFault}
use Rattle.tl_stream.specs.declared.fault.TextFault.TheVariants as faults

-- a fault of a trace has the number and name that it has as a TraceFault
abbrev pub text_fault_number : TextFault → ℕ
text_fault_number (faults.Trace fault) = kind_number fault.kind
text_fault_number faults.Stalled = 20
text_fault_number faults.Read = 21
text_fault_number faults.Write = 22
text_fault_number faults.TooLong = 23
text_fault_number faults.OutOfMemory = 13

abbrev pub text_fault_name : TextFault → List ℕ
text_fault_name (faults.Trace fault) = kind_name fault.kind
text_fault_name faults.Stalled = codes "Stalled"
text_fault_name faults.Read = codes "Read"
text_fault_name faults.Write = codes "Write"
text_fault_name faults.TooLong = codes "TooLong"
text_fault_name faults.OutOfMemory = codes "OutOfMemory"

-- the line of a trace's fault
abbrev pub text_fault_line : TextFault → Option ℕ
text_fault_line (faults.Trace fault) = Some fault.line
text_fault_line faults.Stalled = None
text_fault_line faults.Read = None
text_fault_line faults.Write = None
text_fault_line faults.TooLong = None
text_fault_line faults.OutOfMemory = None

-- if a trace ran out of memory, so did the text, without a line
abbrev pub of_kind : TraceKind → TraceFault → TextFault
of_kind kinds.OutOfMemory fault = faults.OutOfMemory
of_kind _ fault = faults.Trace fault

abbrev pub of_trace : TraceFault → TextFault
of_trace fault = of_kind fault.kind fault
