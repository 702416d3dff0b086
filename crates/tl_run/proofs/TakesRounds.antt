-- The rounds of a run are those that the definitions count.
use Rattle.tl_run.proofs.Names.{◌≡◌, ◌+◌, ◌<◌, ◌≤◌, ◌⊎◌, ℕ, zero, suc, ⊎_elim, sym, ap, subst, ◌∙◌, arith, Beats, Bridge}
use Rattle.tl_run.proofs.Names.{StandsFor, PerChannel, Offered, Stop, IsAt, HasRound, AreStopped, all_stopped, all_under_way, counted, no_beats, nothing_yet}
use Rattle.std.proofs.Math.Nat.{eq-or-lt_of_le}
use Rattle.tl_run.proofs.Ended.{begins}
use Rattle.tl_run.specs.InRounds.{IsOver, TakesRounds, after_round, after_rounds}

-- stops of all channels
pub all-stopped : (o : PerChannel Offered) (stops : PerChannel Stop) → o ≡ all_stopped stops → AreStopped o
all-stopped o stops e = subst AreStopped (sym e) (tt, tt, tt, tt, tt)

-- a number below the next one is this one, or below it
below-next : (j k : ℕ) → j < suc k → (j ≡ k) ⊎ (j < k)
below-next j k l = eq-or-lt_of_le (omega (arith, l))

pub suc-is : (k : ℕ) → suc k ≡ k + 1
suc-is k = omega arith

module _ {C M : ℕ} (near : Beats C M) (room : ℕ) where
  -- a run has come to the place after k rounds, and was not over before
  pub record HasGone (k : ℕ) (n : PerChannel ℕ) (far : Beats M C) (s : Bridge C M) : Type 0 where
    pub at_is : (after_rounds near room k).at ≡ n
    pub stands : StandsFor s (after_rounds near room k).past
    pub is_at : IsAt near n far (after_rounds near room k).past
    pub first : (j : ℕ) → j < suc k → IsOver (after_rounds near room j) → ⊥

  -- it begins
  pub gone-none : (n : PerChannel ℕ) (far : Beats M C) (s : Bridge C M) → n ≡ record { a = 0; b = 0; c = 0; d = 0; e = 0 } → far ≡ no_beats →
      1 ≤ room → StandsFor s (nothing_yet room) → HasGone 0 n far s
  gone-none n far s none empty some stands = record {
    at_is = sym none;
    stands = stands;
    is_at = begins near n far room (nothing_yet room) none empty some;
    first = λ j l over. first-of j l over;
  }
    where
      first-of : (j : ℕ) → j < 1 → IsOver (after_rounds near room j) → ⊥
      first-of zero l over = over.0.0
      first-of (suc j) l over = absurd (omega (arith, l))

  module _ (k : ℕ) (n : PerChannel ℕ) (far far' : Beats M C) (s t : Bridge C M) (o : PerChannel Offered) (g : HasGone k n far s)
      (h : HasRound near n far' (after_rounds near room k).past t o) where
    -- the place after one round more
    next-place : after_rounds near room (suc k) ≡ record { at = counted n o; offers = o; past = h.past }
    next-place = ap (λ q. after_round near q (after_rounds near room k).past) g.at_is ∙ h.exact

    -- a round that isn't the last one
    pub gone-on : (m : PerChannel ℕ) → m ≡ counted n o → (AreStopped o → all_under_way h.past ≡ 0 → ⊥) → HasGone (suc k) m far' t
    gone-on m is goes = record {
      at_is = ap (λ p. p.at) next-place ∙ sym is;
      stands = subst (λ p. StandsFor t p.past) (sym next-place) h.stands;
      is_at = subst (λ p. IsAt near m far' p.past) (sym next-place) (subst (λ q. IsAt near q far' h.past) (sym is) h.is_at);
      first = λ j l over. ⊎_elim (λ same. not-over (subst (λ i. IsOver (after_rounds near room i)) same over))
          (λ below. g.first j below over) (below-next j (suc k) l);
    }
      where
        not-over : IsOver (after_rounds near room (suc k)) → ⊥
        not-over over = let p = subst IsOver next-place over in goes p.0 p.1

    -- the last one
    pub takes-rounds : AreStopped o → all_under_way h.past ≡ 0 → TakesRounds near room (suc k)
    takes-rounds stopped rest = record { over = subst IsOver (sym next-place) (stopped, rest); first = g.first }
