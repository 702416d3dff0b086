-- The status that a call returns, given the past of the side or of the bridge that the handle holds (this project's
-- choice).
use Rattle.std.specs.Prelude.{◌≡◌, ℕ, Bool, true, false, Option, Some, None, Result, Ok, Err, List, [], ◌∷◌, if◌then◌else◌}
use Rattle.tl_msg.specs.declared.beat.BeatOf.{BeatOf}
use Rattle.tl_msg.specs.declared.fault.SideFault.{SideFault}
use Rattle.tl_msg.specs.Names.{side_fault_number}
use Rattle.tl_ring.specs.declared.fault.EndFault.{EndFault}
use Rattle.tl_ring.specs.declared.fault.EndFault.TheVariants.{MidBurst}
use Rattle.tl_ring.specs.Crossing.{World}
use Rattle.tl_ring.specs.Names.{end_fault_number}
use Rattle.tl_c_beats.specs.declared.answers.TheConstants.{NOT_READY}
use Rattle.tl_c_beats.specs.declared.fields.BeatFields.{BeatFields}

-- a channel is ready for a beat: it is not closed, and nothing of it is staged
abbrev pub is_free : {A : Type 0} → (closed : Bool) (stage : List A) → Bool
is_free false [] = true
is_free false (b ∷ bs) = false
is_free true bs = false

abbrev pub is_ready : {H : Type 0} {w v : ℕ} → World H w v → Bool
is_ready x = is_free x.closed x.stage

-- 0, or the number of the fault
abbrev pub fault_answer : Option SideFault → ℕ
fault_answer None = 0
fault_answer (Some fault) = side_fault_number fault

-- the status of an offer, if this is the reason why its side refuses the beat, or None
abbrev pub offer_answer : {H : Type 0} {w v : ℕ} → World H w v → Option SideFault → ℕ
offer_answer x verdict = if is_ready x then fault_answer verdict else NOT_READY

-- the status of a close, if the accepted beats leave this rest of a message
abbrev pub close_answer : {A : Type 0} → (rest : List A) → ℕ
close_answer [] = 0
close_answer (b ∷ bs) = end_fault_number MidBurst

-- 0, or the number of the fault with which an offer or a close was refused
abbrev pub number_of : {E : Type 0} → (number : E → ℕ) → Result Unit E → ℕ
number_of number (Ok done) = 0
number_of number (Err fault) = number fault

abbrev pub offer_number : Result Unit SideFault → ℕ
offer_number = number_of side_fault_number

abbrev pub close_number : Result Unit EndFault → ℕ
close_number = number_of end_fault_number

-- C received the first beat of an inbox
pub record IsTold {H : Type 0} {w : ℕ} (fields_of : BeatOf H w → BeatFields) (first : Option (BeatOf H w)) (written : BeatFields)
    (bytes : List ℕ) : Type 0 where
  pub beat : BeatOf H w
  pub is_first : first ≡ Some beat
  pub fields : written ≡ fields_of beat
  pub lanes : bytes ≡ beat.lanes
