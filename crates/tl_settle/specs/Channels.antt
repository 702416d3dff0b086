-- The dependence of the channels of a script on each other, and the final state of a longer script (this project's
-- choice).
use Rattle.std.specs.Prelude.{◌≡◌, ℕ, slice_get}
use mathlib.Core.List.{IsPrefix}
use Rattle.tl_settle.specs.Outcomes.{Beats, accepted_beats, far_beats, verdicts}

module _ {C M : ℕ} where
  -- Two scripts with the same list of one channel have the same far beats and the same verdict on that channel,
  -- whatever their other lists are. That holds of B, of C and of E, each by itself, and of A and D together, because a
  -- response needs its request. (The verdicts are those of A to E, in this order.)
  pub record NoChannelBlocksAnother (one other : Beats C M) : Type 0 where
    pub far_b : one.b ≡ other.b → (far_beats one).b ≡ (far_beats other).b
    pub far_c : one.c ≡ other.c → (far_beats one).c ≡ (far_beats other).c
    pub far_e : one.e ≡ other.e → (far_beats one).e ≡ (far_beats other).e
    pub verdict_b : one.b ≡ other.b → slice_get (verdicts one) 1 ≡ slice_get (verdicts other) 1
    pub verdict_c : one.c ≡ other.c → slice_get (verdicts one) 2 ≡ slice_get (verdicts other) 2
    pub verdict_e : one.e ≡ other.e → slice_get (verdicts one) 4 ≡ slice_get (verdicts other) 4
    pub far_a : one.a ≡ other.a → one.d ≡ other.d → (far_beats one).a ≡ (far_beats other).a
    pub far_d : one.a ≡ other.a → one.d ≡ other.d → (far_beats one).d ≡ (far_beats other).d
    pub verdict_a : one.a ≡ other.a → one.d ≡ other.d → slice_get (verdicts one) 0 ≡ slice_get (verdicts other) 0
    pub verdict_d : one.a ≡ other.a → one.d ≡ other.d → slice_get (verdicts one) 3 ≡ slice_get (verdicts other) 3

  -- on each channel the beats of one list are the first beats of another
  pub record ArePrefixes (first whole : Beats C M) : Type 0 where
    pub a : IsPrefix first.a whole.a
    pub b : IsPrefix first.b whole.b
    pub c : IsPrefix first.c whole.c
    pub d : IsPrefix first.d whole.d
    pub e : IsPrefix first.e whole.e

-- A longer script keeps the result of a shorter one: accepted near beats stay accepted, and the far beats stay, with
-- others after them
pub record OnlyLengthens {C M : ℕ} (script longer : Beats C M) : Type 0 where
  pub accepted : ArePrefixes (accepted_beats script) (accepted_beats longer)
  pub far : ArePrefixes (far_beats script) (far_beats longer)
