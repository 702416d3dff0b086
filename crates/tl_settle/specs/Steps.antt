-- Two lists whose items are accepted one by one (this project's choice). A state is the number of accepted items of
-- each list. One test decides whether the next item of the one list is accepted, and another test decides for the other
-- list.
use Rattle.std.specs.Prelude.{◌≡◌, ◌≤◌, ℕ, zero, suc, Bool, true, false, cond}

pub record State : Type 0 where
  pub a : ℕ
  pub d : ℕ

module _ (goes_a goes_d : ℕ → ℕ → Bool) where
  -- the states that steps reach, in any order, from the start
  pub data Reaches : ℕ → ℕ → Type 0 where
    start : Reaches zero zero
    by_a : (i j : ℕ) → Reaches i j → goes_a i j ≡ true → Reaches (suc i) j
    by_d : (i j : ℕ) → Reaches i j → goes_d i j ≡ true → Reaches i (suc j)

  -- a state that can be reached, and from which no step is possible
  pub record Settled (i j : ℕ) : Type 0 where
    pub reached : Reaches i j
    pub a_stops : goes_a i j ≡ false
    pub d_stops : goes_d i j ≡ false

  -- one step, if there is one
  abbrev pub next : State → State
  next s = cond (goes_a s.a s.d) (record { a = suc s.a; d = s.d }) (cond (goes_d s.a s.d) (record { a = s.a; d = suc s.d }) s)

  -- at most `most` steps, as long as one is possible
  abbrev pub settle : (most : ℕ) → State → State
  settle zero s = s
  settle (suc most) s = settle most (next s)

  -- s is the settled state: it is settled, it is the only such state, and no order of steps goes beyond it
  pub record IsTheSettled (s : State) : Type 0 where
    pub settled : Settled s.a s.d
    pub only : (i j : ℕ) → Settled i j → (i ≡ s.a) × (j ≡ s.d)
    pub last : (i j : ℕ) → Reaches i j → (i ≤ s.a) × (j ≤ s.d)
