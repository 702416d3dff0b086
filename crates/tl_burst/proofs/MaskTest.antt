-- The mask test of a beat, as facts over lanes.
use Rattle.tl_burst.proofs.Names.{◌≡◌, ◌<◌, ◌≢◌, ◌==◌, ◌↔◌, ℕ, Bool, true, false, min, if◌then◌else◌, refl, sym, ap, ◌∙◌, arith, eq-eqb, ⊎_elim}
use Rattle.tl_burst.proofs.Names.{bit_and, bit_at, eqb-true, eqb_tells, IsWidth, active_mask, bit_at-active_mask}
use Rattle.std.proofs.lemmas.Nat.Bits.{bit_at_and, bit_at-lt, same_from_bits}
use Rattle.tl_burst.proofs.Fits.{MaskFits}

-- a mask within another one has no other bits
within-bits : (mask other : ℕ) → bit_and mask other == mask ≡ true → (l : ℕ) → bit_at mask l ≡ 1 → bit_at other l ≡ 1
within-bits mask other e l one =
    let same : bit_and mask other ≡ mask = eqb-true (bit_and mask other) mask e in
    let both : bit_at (bit_and mask other) l ≡ min (bit_at mask l) (bit_at other l) = bit_at_and mask other l in
    let bit : bit_at (bit_and mask other) l ≡ bit_at mask l = ap (λ n. bit_at n l) same in
    let small : bit_at other l < 2 = bit_at-lt other l in
    omega arith

bits-within : (mask other : ℕ) → ((l : ℕ) → bit_at mask l ≡ 1 → bit_at other l ≡ 1) → bit_and mask other == mask ≡ true
bits-within mask other inside = eq-eqb (bit_and mask other) mask (same_from_bits (bit_and mask other) mask (λ l.
    let both : bit_at (bit_and mask other) l ≡ min (bit_at mask l) (bit_at other l) = bit_at_and mask other l in
    let small : bit_at mask l < 2 = bit_at-lt mask l in
    ⊎_elim
    (λ s. let there : bit_at other l ≡ 1 = inside l s.1 in omega arith)
    (λ s. let ne : bit_at mask l ≢ 1 = s.1 in omega arith)
    (eqb_tells (bit_at mask l) 1)))

same-bits : (a b : ℕ) → ((l : ℕ) → (bit_at a l ≡ 1) ↔ (bit_at b l ≡ 1)) → a ≡ b
same-bits a b each = same_from_bits a b (λ l.
    let a2 : bit_at a l < 2 = bit_at-lt a l in
    let b2 : bit_at b l < 2 = bit_at-lt b l in
    ⊎_elim
    (λ s. s.1 ∙ sym ((each l).0 s.1))
    (λ s. ⊎_elim
    (λ t. absurd (s.1 ((each l).1 t.1)))
    (λ t. let n : bit_at a l ≢ 1 = s.1 in let k : bit_at b l ≢ 1 = t.1 in omega arith)
    (eqb_tells (bit_at b l) 1))
    (eqb_tells (bit_at a l) 1))

-- on a channel with masks, the mask test of the faults is true if and only if the mask fits
pub mask-tests : (masked partial : Bool) (address size w mask : ℕ) → IsWidth w →
    ((if masked then (if partial then bit_and mask (active_mask address size w) == mask else mask == active_mask address size w) else true) ≡ true) ↔
    (masked ≡ true → MaskFits address size w partial mask)
mask-tests false partial address size w mask ww = (λ _ e. absurd (cc), λ _. refl)
mask-tests true true address size w mask ww = (
  λ t _. record {
    inside = λ l one. (bit_at-active_mask address size w l ww).0 (within-bits mask (active_mask address size w) t l one);
    full = λ e. absurd (cc);
  },
  λ fits. bits-within mask (active_mask address size w) (λ l one. (bit_at-active_mask address size w l ww).1 ((fits refl).inside l one)),
)
mask-tests true false address size w mask ww = (
  λ t _.
      let same : mask ≡ active_mask address size w = eqb-true mask (active_mask address size w) t in
      record {
        inside = λ l one. (bit_at-active_mask address size w l ww).0 (ap (λ n. bit_at n l) (sym same) ∙ one);
        full = λ _ l active. ap (λ n. bit_at n l) same ∙ (bit_at-active_mask address size w l ww).1 active;
      },
  λ fits. eq-eqb mask (active_mask address size w) (same-bits mask (active_mask address size w) (λ l. (
    λ one. (bit_at-active_mask address size w l ww).1 ((fits refl).inside l one),
    λ one. (fits refl).full refl l ((bit_at-active_mask address size w l ww).0 one),
  ))),
)
