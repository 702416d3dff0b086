-- The entry that a side keeps for each source, and that it is enough: a source is busy, or has a request, if its
-- request is outstanding (this project's choice).
use Rattle.std.specs.Prelude.{◌≡◌, ℕ, Bool, false, Option, None, Some, List, slice_index_or}
use Rattle.std.specs.Option.{is_some}
use Rattle.tl_msg.specs.declared.head.HeadA.{HeadA}
use Rattle.tl_settle.specs.Histories.{Mark, open_request}
use Rattle.tl_settle.specs.declared.tables.Request.{Request}

-- a table of busy sources is a list with an entry for each source
abbrev pub is_busy : (table : List Bool) → (s : ℕ) → Bool
is_busy table s = slice_index_or table s false

-- and so is a table of requests
abbrev pub entry : (table : List (Option Request)) → (s : ℕ) → Option Request
entry table s = slice_index_or table s None

-- the part of a request that a table keeps: its size and its address
abbrev pub remembered : HeadA → Request
remembered h = record { size = h.size; address = h.address }

abbrev pub remembered_of : Option HeadA → Option Request
remembered_of None = None
remembered_of (Some h) = Some (remembered h)

-- a table represents the messages that have begun
pub record AreBusy (table : List Bool) (ms : List Mark) : Type 0 where
  pub each : (s : ℕ) → is_busy table s ≡ is_some (open_request s ms)

pub record AreOpen (table : List (Option Request)) (ms : List Mark) : Type 0 where
  pub each : (s : ℕ) → entry table s ≡ remembered_of (open_request s ms)
