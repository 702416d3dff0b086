-- The result of reading a whole text. Only private contracts use these words.
use Rattle.std.specs.Prelude.{◌≤◌, ◌<◌, ℕ, List, length, Option, Result, Ok, Err, IfSome}
use Rattle.std.specs.Io.KnownBytes.{Consumes, IsAtEnd}
use Rattle.tl_stream.specs.Inputs.{most_bytes}
use Rattle.tl_stream.specs.declared.fault.TextFault.{TextFault}
use Rattle.tl_stream.specs.declared.fault.TextFault.TheVariants as faults

-- these bytes were read, and the reader is at its end
pub record IsAllRead (old new : Option (List ℕ)) (text : List ℕ) : Type 0 where
  pub took : Consumes old new text
  pub few : length text ≤ most_bytes
  pub end : IsAtEnd new

-- the reasons why a text was not read to its end
abbrev pub IsNotRead : (unread : Option (List ℕ)) → TextFault → Type 0
IsNotRead unread faults.OutOfMemory = Unit {0}
IsNotRead unread (faults.Trace fault) = ⊥
IsNotRead unread faults.Stalled = ⊥
IsNotRead unread faults.Read = Unit {0}
IsNotRead unread faults.Write = ⊥
IsNotRead unread faults.TooLong = IfSome unread (λ text. most_bytes < length text)

-- the result of reading a text
abbrev pub ReadsAll : (old new : Option (List ℕ)) (all : List ℕ) → Result (Unit {0}) TextFault → Type 0
ReadsAll old new all (Ok _) = IsAllRead old new all
ReadsAll old new all (Err fault) = IsNotRead old fault
