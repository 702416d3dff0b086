-- Each beat under way is taken, from every state of a crossing. Counted in cycles of calls, because a crossing has no
-- clock (this project's choice).
use Rattle.std.specs.Prelude.{◌≡◌, ◌≤◌, ◌+◌, ◌*◌, ◌-◌, ◌↔◌, ◌++◌, ℕ, suc, List, [], length, take, min}
use Rattle.std.specs.Fn.{iterate}
use Rattle.tl_msg.specs.Rules.{Rules}
use Rattle.tl_convert.specs.Due.{due}
use Rattle.tl_ring.specs.Crossing.{World, Event, Run, inbox_room}
use Rattle.tl_ring.specs.Laws.{Crosses}
use Rattle.tl_ring.specs.Soon.{after_pump, after_fetch, IsIdle, rings_for}

module _ {H : Type 0} {w v : ℕ} where
  -- everything in the inbox is taken
  abbrev pub emptied : World H w v → World H w v
  emptied x = record x { inbox = []; taken = x.taken ++ x.inbox }

  -- one cycle: a pump, a fetch, and a take of everything in the inbox
  abbrev pub after_cycle : World H w v → World H w v
  after_cycle x = emptied (after_fetch (after_pump x))

  abbrev pub cycles : ℕ → World H w v → World H w v
  cycles n x = iterate after_cycle n x

  -- the number of far beats that are on their way to the taker
  abbrev pub under_way : World H w v → ℕ
  under_way x = length x.inbox + (length x.ring + length x.stage)

  -- the most beats that the first cycle moves out of the ring
  abbrev pub first_move : World H w v → ℕ
  first_move x = min x.room (inbox_room - length x.inbox)

  -- all beats under way were taken, in order, and nothing else was
  pub record HasDelivered (x y : World H w v) : Type 0 where
    pub taken : y.taken ≡ x.taken ++ x.inbox ++ x.ring ++ x.stage
    pub idle : IsIdle y

pub record Arrives {H : Type 0} (r : Rules H) : Type 0 where
  -- from every state, after as many cycles as beats are under way
  pub delivers : (w v n : ℕ) (x : World H w v) → 1 ≤ x.room → under_way x ≤ n → HasDelivered x (cycles n x)
  -- the exact beats taken: those in the inbox, then as many as ring and inbox had room for in each cycle
  pub exactly : (w v n : ℕ) (x : World H w v) → length x.ring ≤ x.room →
      (cycles (suc n) x).taken ≡ x.taken ++ x.inbox ++ take (first_move x + n * min x.room inbox_room) (x.ring ++ x.stage)
  -- so this is the exact number of cycles: one, and one for each ring's or inbox's worth that is then left
  pub soonest : (w v n : ℕ) (x : World H w v) → 1 ≤ x.room → length x.ring ≤ x.room →
      HasDelivered x (cycles (suc n) x) ↔ (rings_for (min x.room inbox_room) (length x.ring + length x.stage - first_move x) ≤ n)
  -- in a crossing, what is taken then is all that the accepted beats made due
  pub all_due : (w v n : ℕ) (x : World H w v) → Crosses r x → 1 ≤ x.room → under_way x ≤ n →
      (cycles n x).taken ≡ due r w v x.accepted x.homes
  -- cycles are events of the crossing
  pub runs : (w v n : ℕ) (x : World H w v) → (es : List (Event H w)) × Run r x es (cycles n x)
