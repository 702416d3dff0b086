-- Histories in which requests and responses take turns, and what a side has seen within a run.
use Rattle.tl_settle.proofs.Names.{◌≡◌, ◌≤◌, ◌<◌, ◌⊎◌, ◌++◌, ℕ, true, None, Some, List, [], ◌∷◌, take, HeadA, HeadD, BeatOf, is_release_ack, far_a}
use Rattle.tl_settle.proofs.Names.{far_d, goes_a, goes_d, Event, asked, answered, Mark, Asks, Answers, marks, open_request, Extends}

-- the requests and the responses among messages that begin
abbrev pub asks : List Mark → List HeadA
asks [] = []
asks (Asks h ∷ ms) = h ∷ asks ms
asks (Answers h ∷ ms) = asks ms

abbrev pub answers : List Mark → List HeadD
answers [] = []
answers (Asks h ∷ ms) = answers ms
answers (Answers h ∷ ms) = h ∷ answers ms

-- each request begins when its source has none outstanding, and each response other than ReleaseAck when one is
-- outstanding
pub data Ordered : List Mark → Type 0 where
  unmarked : Ordered []
  ask : (ms : List Mark) (h : HeadA) → Ordered ms → open_request h.source ms ≡ None → Ordered (ms ++ Asks h ∷ [])
  answer : (ms : List Mark) (h : HeadD) → Ordered ms → (is_release_ack h ≡ true) ⊎ ((q : HeadA) × (open_request h.source ms ≡ Some q)) →
      Ordered (ms ++ Answers h ∷ [])

module _ {C M : ℕ} (a : List (BeatOf HeadA C)) (d : List (BeatOf HeadD M)) where
  -- the client's side: it has accepted the first i beats of A, and has taken some of what the first j beats of D make due
  pub record ClientIs (i j : ℕ) (es : List (Event C)) : Type 0 where
    pub accepted : asked es ≡ take i a
    pub taken : Extends (answered es) (far_d a d j)
    pub ordered : Ordered (marks es)

  -- the manager's side: it has taken some of what the first i beats of A make due, and has accepted the first j beats of D
  pub record ManagerIs (i j : ℕ) (es : List (Event M)) : Type 0 where
    pub taken : Extends (asked es) (far_a a d i)
    pub accepted : answered es ≡ take j d
    pub ordered : Ordered (marks es)

  -- a round from (i, j) to (x, y), in which each side saw the other one at the round's begin
  pub record IsRound (i j x y : ℕ) : Type 0 where
    pub a_on : i ≤ x
    pub d_on : j ≤ y
    pub a_goes : (k : ℕ) → i ≤ k → k < x → goes_a a d k j ≡ true
    pub d_goes : (k : ℕ) → j ≤ k → k < y → goes_d a d i k ≡ true
