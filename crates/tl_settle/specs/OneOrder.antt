-- One order of the events of both sides, and numbers that show one (this project's choice).
use Rattle.std.specs.Prelude.{◌≡◌, ◌<◌, ◌++◌, ◌∷◌, ℕ, List, [], map}
use mathlib.Core.List.{IsPrefix}
use Rattle.tl_msg.specs.Tables.{rules_a, rules_d}
use Rattle.tl_msg.specs.declared.head.HeadA.{HeadA}
use Rattle.tl_msg.specs.declared.head.HeadD.{HeadD}
use Rattle.tl_msg.specs.declared.beat.BeatOf.{BeatOf}
use Rattle.tl_convert.specs.Due.{due}
use Rattle.tl_settle.specs.Histories.{Event, Ask, Answer, asked, answered}

module _ {C M : ℕ} where
  -- these far beats of A were due by the first events of the client's side
  pub record DueByClient (client : List (Event C)) (far : List (BeatOf HeadA M)) : Type 0 where
    pub front : List (Event C)
    pub first : IsPrefix front client
    pub homes : List ℕ
    pub due : IsPrefix far (due rules_a C M (asked front) homes)

  -- and these of D by the first events of the manager's side
  pub record DueByManager (manager : List (Event M)) (far : List (BeatOf HeadD C)) : Type 0 where
    pub front : List (Event M)
    pub first : IsPrefix front manager
    pub homes : List ℕ
    pub due : IsPrefix far (due rules_d M C (answered front) homes)

  -- Both histories grow event by event, in one order. A beat is taken only after the beats that made it due were
  -- accepted
  pub data InOneOrder : (client : List (Event C)) (manager : List (Event M)) → Type 0 where
    none_yet : InOneOrder [] []
    client_accepted : (x : List (Event C)) (y : List (Event M)) (b : BeatOf HeadA C) → InOneOrder x y → InOneOrder (x ++ Ask b ∷ []) y
    manager_took : (x : List (Event C)) (y : List (Event M)) (b : BeatOf HeadA M) → InOneOrder x y →
        DueByClient x (asked y ++ b ∷ []) → InOneOrder x (y ++ Ask b ∷ [])
    manager_accepted : (x : List (Event C)) (y : List (Event M)) (b : BeatOf HeadD M) → InOneOrder x y → InOneOrder x (y ++ Answer b ∷ [])
    client_took : (x : List (Event C)) (y : List (Event M)) (b : BeatOf HeadD C) → InOneOrder x y →
        DueByManager y (answered x ++ b ∷ []) → InOneOrder (x ++ Answer b ∷ []) y

-- an event with the value of its side's clock
pub record Timed (w : ℕ) : Type 0 where
  pub time : ℕ
  pub event : Event w

abbrev pub events : {w : ℕ} → List (Timed w) → List (Event w)
events ts = map (λ t. t.event) ts

-- each of these events was before this time
abbrev pub AreBefore : {w : ℕ} → List (Timed w) → (time : ℕ) → Type 0
AreBefore {w} ts time = (before after : List (Timed w)) (t : Timed w) → ts ≡ before ++ t ∷ after → t.time < time

module _ {C M : ℕ} where
  -- Clocks show the order: each beat was taken at a time after all of some first events of the other side, by which it
  -- was due
  pub record ClientSentBefore (client : List (Timed C)) (far : List (BeatOf HeadA M)) (time : ℕ) : Type 0 where
    pub front : List (Timed C)
    pub first : IsPrefix front client
    pub earlier : AreBefore front time
    pub homes : List ℕ
    pub due : IsPrefix far (due rules_a C M (asked (events front)) homes)

  pub record ManagerSentBefore (manager : List (Timed M)) (far : List (BeatOf HeadD C)) (time : ℕ) : Type 0 where
    pub front : List (Timed M)
    pub first : IsPrefix front manager
    pub earlier : AreBefore front time
    pub homes : List ℕ
    pub due : IsPrefix far (due rules_d M C (answered (events front)) homes)

  pub record ClocksAgree (client : List (Timed C)) (manager : List (Timed M)) : Type 0 where
    pub a : (before after : List (Timed M)) (time : ℕ) (b : BeatOf HeadA M) →
        manager ≡ before ++ record { time = time; event = Ask b } ∷ after → ClientSentBefore client (asked (events before) ++ b ∷ []) time
    pub d : (before after : List (Timed C)) (time : ℕ) (b : BeatOf HeadD C) →
        client ≡ before ++ record { time = time; event = Answer b } ∷ after → ManagerSentBefore manager (answered (events before) ++ b ∷ []) time
