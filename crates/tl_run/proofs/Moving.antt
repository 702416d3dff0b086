-- All rings move on: staged beats go in, and beats come out, as many as there is room for.
use Rattle.tl_run.proofs.Names.{◌-◌, ℕ, length, min, World, pushed, inbox_room}
pub use Rattle.tl_run.specs.InRounds.{moved, after_moves}

module _ {H : Type 0} {w v : ℕ} where
  -- how many beats go into the ring where as many as fit do, and then how many come out of it
  abbrev pub push_count : World H w v → ℕ
  push_count x = min (length x.stage) (x.room - length x.ring)

  abbrev pub pop_count : World H w v → ℕ
  pop_count x = min (length x.ring) (inbox_room - length x.inbox)

  -- one ring moves on
  abbrev pub moved_in : World H w v → World H w v
  moved_in x = pushed (push_count x) x
