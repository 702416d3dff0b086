-- The ranges of the numbers of an order (this project's choice).
use Rattle.std.specs.Prelude.{ℕ, ◌≤◌, Bool, true, false}
use Rattle.tl_order.specs.declared.Order.{Order}
use Rattle.tl_order.specs.declared.Order.TheVariants.{Run, Check}

-- the bridge can execute the order: a ring holds at least one beat and at most 4,096, and the sides take at least one
-- turn between two meetings
abbrev pub IsRunnable : Order → Type 0
IsRunnable (Run ring turns sync) = (1 ≤ ring) × (ring ≤ 4096) × (1 ≤ turns)
IsRunnable Check = Unit {0}

-- the order is runnable, and the turns are at most 1,000
abbrev pub IsInRange : Order → Type 0
IsInRange (Run ring turns sync) = IsRunnable (Run ring turns sync) × (turns ≤ 1000)
IsInRange Check = Unit {0}

-- the order is a check, which prints no far beats
abbrev pub is_check : Order → Bool
is_check (Run ring turns sync) = false
is_check Check = true

-- both sides run in one thread; true for a check
abbrev pub is_sync : Order → Bool
is_sync (Run ring turns sync) = sync
is_sync Check = true

-- the number of beats that a ring holds; 1 for a check
abbrev pub ring_of : Order → ℕ
ring_of (Run ring turns sync) = ring
ring_of Check = 1

-- the number of turns that a side takes between two meetings; 1 for a check
abbrev pub turns_of : Order → ℕ
turns_of (Run ring turns sync) = turns
turns_of Check = 1
