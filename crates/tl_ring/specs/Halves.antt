-- The items of a ring between two threads with the times at which they were sent, and the clock of the side that takes
-- them. Both exist only in proofs (this project's choice, after Lamport's logical clocks).
use Rattle.std.specs.Prelude.{◌≡◌, ◌≤◌, ◌<◌, ◌++◌, ◌∷◌, ℕ, List, map}
use mathlib.Core.List.{IsPrefix}
use Rattle.rtrb.specs.Fifo.{Allowed}
use Rattle.rtrb.specs.declared.consumer.Consumer.{Consumer}
use Rattle.tl_ring.specs.declared.stamped.Stamped.{Stamped}

-- an item that was sent at this time
abbrev pub stamped : {T : Type 0} → T → (time : ℕ) → Stamped T
stamped x time = record { item = x; stamp = record { time = time } }

-- these items, all sent at this time
abbrev pub all_stamped : {T : Type 0} → (time : ℕ) → List T → List (Stamped T)
all_stamped time xs = map (λ x. stamped x time) xs

-- the items without their times
abbrev pub items : {T : Type 0} → List (Stamped T) → List T
items ss = map (λ s. s.item) ss

-- the consumer of a ring, and the clock of its side
pub record Receiver (T A P : Type 0) : Type 0 where
  pub end : Consumer T A P
  pub clock : ℕ

-- more items came out of a ring, and moved the clock of their side on past their times
pub record Heard {T : Type 0} (before after : List (Stamped T)) (was now : ℕ) : Type 0 where
  pub got : List (Stamped T)
  pub more : after ≡ before ++ got
  pub later : was ≤ now
  pub past : (firsts lasts : List (Stamped T)) (s : Stamped T) → got ≡ firsts ++ s ∷ lasts → s.stamp.time < now

-- they are these ones, of which the ring allows each, and begin with those that were known to be in the ring
pub record Popped {T : Type 0} (allows : List (Stamped T) → Stamped T → Type 0) (before after known left : List (Stamped T)) (xs : List T)
    (was now : ℕ) : Type 0 where
  pub heard : Heard before after was now
  pub are : items heard.got ≡ xs
  pub allowed : Allowed allows before heard.got
  pub seen : IsPrefix known (heard.got ++ left)
