-- The numbers and names of faults (this project's choice).
use Rattle.std.specs.Prelude.{ℕ, List, codes}
use Rattle.tl_ring.specs.declared.fault.BuildFault.{BuildFault}
use Rattle.tl_ring.specs.declared.fault.BuildFault.TheVariants.{RingSize, OutOfMemory}
use Rattle.tl_ring.specs.declared.fault.EndFault.{EndFault}
use Rattle.tl_ring.specs.declared.fault.EndFault.TheVariants.{MidBurst}

abbrev pub build_fault_number : BuildFault → ℕ
build_fault_number RingSize = 12
build_fault_number OutOfMemory = 13

abbrev pub build_fault_name : BuildFault → List ℕ
build_fault_name RingSize = codes "RingSize"
build_fault_name OutOfMemory = codes "OutOfMemory"

abbrev pub end_fault_number : EndFault → ℕ
end_fault_number MidBurst = 11

abbrev pub end_fault_name : EndFault → List ℕ
end_fault_name MidBurst = codes "MidBurst"
