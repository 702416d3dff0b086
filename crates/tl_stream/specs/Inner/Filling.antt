-- The result of one read of a piece. Only private contracts use these words.
use Rattle.std.specs.Prelude.{◌≢◌, ◌≤◌, ◌<◌, ℕ, List, length, take, Option, Result, Ok, Err}
use Rattle.std.specs.Io.KnownBytes.{Consumes, IsAtEnd}
use Rattle.tl_stream.specs.declared.fault.TextFault.{TextFault}
use Rattle.tl_stream.specs.declared.fault.TextFault.TheVariants as faults

-- the first n bytes of the room are those that were read, at most `most`; if the room is not full, the reader is at its
-- end
pub record IsFilled (old new : Option (List ℕ)) (most : ℕ) (room : List ℕ) (n : ℕ) : Type 0 where
  pub within : n ≤ length room
  pub few : n ≤ most
  pub took : Consumes old new (take n room)
  pub end : n ≢ length room → IsAtEnd new

-- more bytes were read than are allowed
abbrev pub IsTooMany : (old new : Option (List ℕ)) (most : ℕ) → Type 0
IsTooMany old new most = (bytes : List ℕ) × Consumes old new bytes × (most < length bytes)

-- the reasons why reading stopped: a read failed, or too many bytes were read
abbrev pub IsReadFault : (long : Type 0) → TextFault → Type 0
IsReadFault long (faults.Trace fault) = ⊥
IsReadFault long faults.Stalled = ⊥
IsReadFault long faults.Read = Unit {0}
IsReadFault long faults.Write = ⊥
IsReadFault long faults.TooLong = long
IsReadFault long faults.OutOfMemory = ⊥

-- the result of filling a room
abbrev pub Fills : (old new : Option (List ℕ)) (most : ℕ) (room : List ℕ) → Result ℕ TextFault → Type 0
Fills old new most room (Ok n) = IsFilled old new most room n
Fills old new most room (Err fault) = IsReadFault (IsTooMany old new most) fault
