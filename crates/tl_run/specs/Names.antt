-- The numbers and names of faults (this project's choice).
use Rattle.std.specs.Prelude.{ℕ, List, codes}
use Rattle.tl_run.specs.declared.outcome.RunFault.{RunFault}
use Rattle.tl_run.specs.declared.outcome.RunFault.TheVariants as running

abbrev pub run_fault_number : RunFault → ℕ
run_fault_number running.RingSize = 12
run_fault_number running.OutOfMemory = 13
run_fault_number running.Stalled = 20

abbrev pub run_fault_name : RunFault → List ℕ
run_fault_name running.RingSize = codes "RingSize"
run_fault_name running.OutOfMemory = codes "OutOfMemory"
run_fault_name running.Stalled = codes "Stalled"
