-- Any two lists whose steps stay possible: one settled state, and no run goes past it.
use Rattle.tl_settle.proofs.Names.{◌≡◌, ◌≤◌, ◌<◌, ◌+◌, ◌⊎◌, ℕ, zero, suc, Bool, true, false, refl, sym, ap, subst, ◌∙◌, arith, zero-le, ⊎_elim, cond}
use Rattle.tl_settle.proofs.Names.{true≢false, IsTheSettled, Reaches, Settled, State, by_a, by_d, next, settle, start}

-- A possible step stays possible while the other list advances: so there is one settled state, and no run goes beyond
-- it.
module _ (goes_a goes_d : ℕ → ℕ → Bool) (n m : ℕ)
    (Good : ℕ → ℕ → Type 0)
    (good_start : Good 0 0)
    (good_a : (i j : ℕ) → Good i j → goes_a i j ≡ true → Good (suc i) j)
    (good_d : (i j : ℕ) → Good i j → goes_d i j ≡ true → Good i (suc j))
    (stays_a : (i j k : ℕ) → Good i k → j ≤ k → goes_a i j ≡ true → goes_a i k ≡ true)
    (stays_d : (i j k : ℕ) → Good k j → i ≤ k → goes_d i j ≡ true → goes_d k j ≡ true)
    (ends_a : (i j : ℕ) → goes_a i j ≡ true → i < n)
    (ends_d : (i j : ℕ) → goes_d i j ≡ true → j < m)
  where
    good : {i j : ℕ} → Reaches goes_a goes_d i j → Good i j
    good start = good_start
    good (by_a i j r g) = good_a i j (good r) g
    good (by_d i j r g) = good_d i j (good r) g

    -- a number that is not above k, or is k itself
    split : (i k : ℕ) → i ≤ k → (suc i ≤ k) ⊎ (i ≡ k)
    split i k h = grind arith

    -- no run goes past a settled state
    past : {i j : ℕ} → Reaches goes_a goes_d i j → (x y : ℕ) → Settled goes_a goes_d x y → (i ≤ x) × (j ≤ y)
    past start x y s = (zero-le, zero-le)
    past (by_a i j r g) x y s =
        let before : (i ≤ x) × (j ≤ y) = past r x y s in
        ⊎_elim (λ more. (more, before.1))
        (λ (e : i ≡ x).
        let here : goes_a x j ≡ true = rw (← e) g in
        absurd (true≢false (sym (stays_a x j y (good s.reached) before.1 here) ∙ s.a_stops)))
        (split i x before.0)
    past (by_d i j r g) x y s =
        let before : (i ≤ x) × (j ≤ y) = past r x y s in
        ⊎_elim (λ more. (before.0, more))
        (λ (e : j ≡ y).
        let here : goes_d i y ≡ true = rw (← e) g in
        absurd (true≢false (sym (stays_d i y x (good s.reached) before.0 here) ∙ s.d_stops)))
        (split j y before.1)

    -- the next state, by what goes
    next_a : (s : State) → goes_a s.a s.d ≡ true → next goes_a goes_d s ≡ record { a = suc s.a; d = s.d }
    next_a s e = ap (λ c. cond c (record { a = suc s.a; d = s.d }) (cond (goes_d s.a s.d) (record { a = s.a; d = suc s.d }) s)) e

    next_d : (s : State) → goes_a s.a s.d ≡ false → goes_d s.a s.d ≡ true → next goes_a goes_d s ≡ record { a = s.a; d = suc s.d }
    next_d s e f =
        ap (λ c. cond c (record { a = suc s.a; d = s.d }) (cond (goes_d s.a s.d) (record { a = s.a; d = suc s.d }) s)) e ∙
        ap (λ c. cond c (record { a = s.a; d = suc s.d }) s) f

    next_none : (s : State) → goes_a s.a s.d ≡ false → goes_d s.a s.d ≡ false → next goes_a goes_d s ≡ s
    next_none s e f =
        ap (λ c. cond c (record { a = suc s.a; d = s.d }) (cond (goes_d s.a s.d) (record { a = s.a; d = suc s.d }) s)) e ∙
        ap (λ c. cond c (record { a = s.a; d = suc s.d }) s) f

    -- if no step is possible, more fuel changes nothing
    still : (fuel : ℕ) (s : State) → goes_a s.a s.d ≡ false → goes_d s.a s.d ≡ false → settle goes_a goes_d fuel s ≡ s
    still zero s e f = refl
    still (suc fuel) s e f = ap (λ x. settle goes_a goes_d fuel x) (next_none s e f) ∙ still fuel s e f

    -- a state that can be reached leads to a settled one
    onward : (fuel : ℕ) (s : State) (p q : Bool) → goes_a s.a s.d ≡ p → goes_d s.a s.d ≡ q → Reaches goes_a goes_d s.a s.d →
        (s.a ≤ n) × (s.d ≤ m) → n + m ≤ s.a + s.d + fuel →
        Settled goes_a goes_d (settle goes_a goes_d fuel s).a (settle goes_a goes_d fuel s).d
    onward zero s true q e f r b h = let k : s.a < n = ends_a s.a s.d e in absurd (omega arith)
    onward zero s false true e f r b h = let k : s.d < m = ends_d s.a s.d f in absurd (omega arith)
    onward fuel s false false e f r b h =
        subst (λ (x : State). Settled goes_a goes_d x.a x.d) (sym (still fuel s e f)) (record { reached = r; a_stops = e; d_stops = f })
    onward (suc fuel) s true q e f r b h =
        let k : s.a < n = ends_a s.a s.d e in
        subst (λ (x : State). Settled goes_a goes_d (settle goes_a goes_d fuel x).a (settle goes_a goes_d fuel x).d) (sym (next_a s e))
        (onward fuel (record { a = suc s.a; d = s.d }) (goes_a (suc s.a) s.d) (goes_d (suc s.a) s.d) refl refl
        (by_a s.a s.d r e) (omega arith, b.1) (omega arith))
    onward (suc fuel) s false true e f r b h =
        let k : s.d < m = ends_d s.a s.d f in
        subst (λ (x : State). Settled goes_a goes_d (settle goes_a goes_d fuel x).a (settle goes_a goes_d fuel x).d) (sym (next_d s e f))
        (onward fuel (record { a = s.a; d = suc s.d }) (goes_a s.a (suc s.d)) (goes_d s.a (suc s.d)) refl refl
        (by_d s.a s.d r f) (b.0, omega arith) (omega arith))

    pub settles : IsTheSettled goes_a goes_d (settle goes_a goes_d (n + m) (record { a = 0; d = 0 }))
    settles =
        let s : State = settle goes_a goes_d (n + m) (record { a = 0; d = 0 }) in
        let done : Settled goes_a goes_d s.a s.d = onward (n + m) (record { a = 0; d = 0 }) (goes_a 0 0) (goes_d 0 0) refl refl start
        (zero-le, zero-le) (omega arith) in
        record {
          settled = done;
          only = λ i j t.
              let there : (i ≤ s.a) × (j ≤ s.d) = past t.reached s.a s.d done in
              let back : (s.a ≤ i) × (s.d ≤ j) = past done.reached i j t in
              (omega arith, omega arith);
          last = λ i j r. past r s.a s.d done;
        }
