-- The concurrent behaviour of both sides (this project's choice). A run is made of rounds. Within a round each side
-- makes its own calls in any order: it takes beats that had arrived by the last meeting of the two sides, and it
-- accepts beats of its own list by its own history. So neither side knows anything that the other one does in the same
-- round.
use Rattle.std.specs.Prelude.{◌≡◌, ◌≢◌, ℕ, zero, suc, None, Some, List, [], ◌∷◌, ◌++◌, slice_get}
use mathlib.Core.List.{IsPrefix}
use Rattle.tl_msg.specs.Tables.{rules_a}
use Rattle.tl_msg.specs.declared.head.HeadA.{HeadA}
use Rattle.tl_msg.specs.declared.head.HeadD.{HeadD}
use Rattle.tl_msg.specs.declared.beat.BeatOf.{BeatOf}
use Rattle.tl_burst.specs.Begun.{heads}
use Rattle.tl_settle.specs.Requests.{homes_after}
use Rattle.tl_settle.specs.Settling.{responses, far_a, far_d, stops_a, stops_d, settled_state}
use Rattle.tl_settle.specs.Histories.{Event, Ask, Answer, asked, answered, client_answer, manager_answer, manager_homes}

-- the near beats a of channel A, at the client's width C, and d of channel D, at the manager's width M
module _ {C M : ℕ} (a : List (BeatOf HeadA C)) (d : List (BeatOf HeadD M)) where
  -- The moves of the client's side within a round that begins with history es, when x beats of A and j of D were
  -- accepted: the round ends with another history and number of accepted beats of A. A beat that it takes is among the
  -- far beats of the j beats of D; a beat that it accepts is the next beat of A
  pub data ClientMoves (j x : ℕ) (es : List (Event C)) : (accepted : ℕ) → List (Event C) → Type 0 where
    client_rests : ClientMoves j x es x es
    client_takes : (y : ℕ) (fs : List (Event C)) (b : BeatOf HeadD C) → ClientMoves j x es y fs →
        IsPrefix (answered fs ++ b ∷ []) (far_d a d j) → ClientMoves j x es y (fs ++ Answer b ∷ [])
    client_accepts : (y : ℕ) (fs : List (Event C)) (b : BeatOf HeadA C) → ClientMoves j x es y fs →
        slice_get a y ≡ Some b → client_answer fs b ≡ None → ClientMoves j x es (suc y) (fs ++ Ask b ∷ [])

  -- The moves of the manager's side within a round that begins with history es, when i beats of A and x of D were
  -- accepted: a beat that it takes is among the far beats of the i beats of A, and a beat that it accepts is the next
  -- beat of D
  pub data ManagerMoves (i x : ℕ) (es : List (Event M)) : (accepted : ℕ) → List (Event M) → Type 0 where
    manager_rests : ManagerMoves i x es x es
    manager_takes : (y : ℕ) (fs : List (Event M)) (b : BeatOf HeadA M) → ManagerMoves i x es y fs →
        IsPrefix (asked fs ++ b ∷ []) (far_a a d i) → ManagerMoves i x es y (fs ++ Ask b ∷ [])
    manager_accepts : (y : ℕ) (fs : List (Event M)) (b : BeatOf HeadD M) → ManagerMoves i x es y fs →
        slice_get d y ≡ Some b → manager_answer fs b ≡ None → ManagerMoves i x es (suc y) (fs ++ Answer b ∷ [])

  -- rounds, one after the other: i beats of A and j of D are accepted at the end, and each side has its history
  pub data Run : (i j : ℕ) → (client : List (Event C)) (manager : List (Event M)) → Type 0 where
    begins : Run zero zero [] []
    round : (i j x y : ℕ) (client client' : List (Event C)) (manager manager' : List (Event M)) → Run i j client manager →
        ClientMoves j i client x client' → ManagerMoves i j manager y manager' → Run x y client' manager'

  -- a run is over if all far beats that are due were taken, and each side refuses the next beat of its list
  pub record IsOver (i j : ℕ) (client : List (Event C)) (manager : List (Event M)) : Type 0 where
    pub run : Run i j client manager
    pub a_taken : asked manager ≡ far_a a d i
    pub d_taken : answered client ≡ far_d a d j
    pub a_stops : (b : BeatOf HeadA C) → slice_get a i ≡ Some b → client_answer client b ≢ None
    pub d_stops : (b : BeatOf HeadD M) → slice_get d j ≡ Some b → manager_answer manager b ≢ None

  -- the accepted beats are those of the settled state, the reason for which a side refuses a beat is the one there,
  -- which the verdict reads, and the homes that the manager's side gave to the messages of D are the addresses of their
  -- requests
  pub record IsSettledRun (i j : ℕ) (client : List (Event C)) (manager : List (Event M)) : Type 0 where
    pub a_there : i ≡ (settled_state a d).a
    pub d_there : j ≡ (settled_state a d).d
    pub a_answer : (b : BeatOf HeadA C) → client_answer client b ≡ stops_a a d i j b
    pub d_answer : (b : BeatOf HeadD M) → manager_answer manager b ≡ stops_d a d i j b
    pub homes : manager_homes manager ≡ homes_after (heads rules_a C a) [] (responses a d j)
