-- The beats of a list that begin a message, by the SiFive TileLink Specification 1.8: burst rules. The first beat of
-- the list begins one. If a beat begins a message of n beats, then the next beat that begins one comes n beats later.
use Rattle.std.specs.Prelude.{◌-◌, ℕ, zero, suc, List, [], ◌∷◌}
use Rattle.tl_msg.specs.Rules.{Rules}
use Rattle.tl_msg.specs.declared.beat.BeatOf.{BeatOf}
use Rattle.tl_burst.specs.Messages.{beats_of}

module _ {H : Type 0} (r : Rules H) (w : ℕ) where
  -- the heads of the messages that begin in a list whose first `inside` beats belong to an earlier message
  abbrev pub heads_from : (inside : ℕ) → List (BeatOf H w) → List H
  heads_from inside [] = []
  heads_from zero (b ∷ bs) = b.head ∷ heads_from (beats_of r b.head w - 1) bs
  heads_from (suc inside) (b ∷ bs) = heads_from inside bs

  -- the heads of the messages that begin in a list, in order
  abbrev pub heads : List (BeatOf H w) → List H
  heads bs = heads_from 0 bs

  -- the number of beats that are still missing from the last message of a list
  abbrev pub left_from : (inside : ℕ) → List (BeatOf H w) → ℕ
  left_from inside [] = inside
  left_from zero (b ∷ bs) = left_from (beats_of r b.head w - 1) bs
  left_from (suc inside) (b ∷ bs) = left_from inside bs

  abbrev pub left : List (BeatOf H w) → ℕ
  left bs = left_from 0 bs

  -- the head of the message that the beats of a rest have begun, if any
  abbrev pub rest_heads : (rest : List (BeatOf H w)) → List H
  rest_heads [] = []
  rest_heads (b ∷ bs) = b.head ∷ []
