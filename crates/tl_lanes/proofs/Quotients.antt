-- Bytes are divided by bytes per beat, a power of two, by a shift.
use Rattle.std.proofs.Common.{◌≡◌, ◌≤◌, ◌<◌, ◌^◌, ◌/◌, ℕ, min, arith, sym, ap, ◌∙◌, ⊎_elim}
use Rattle.std.specs.Int.{trailing_zeros}
use Rattle.std.proofs.lemmas.Bool.Decides.{eqb_tells, leb_tells}
use Rattle.std.proofs.lemmas.Nat.{pow_pos}
use Rattle.std.proofs.lemmas.Nat.Bits.{bit_at-trailing_zeros, bit_at-pow_other}
use Rattle.std.proofs.Math.Pow.{pow_mono, pow-lt}
use mir.Syntax.{w64}
use Rattle.tl_lanes.specs.Lanes.{IsWidth, bytes_per_beat}

-- a power of two has only zeros below its one bit
zeros-below : (k : ℕ) → k < 64 → trailing_zeros w64 (2 ^ k) ≡ k
zeros-below k lt =
    let place = trailing_zeros w64 (2 ^ k) in
    let found = bit_at-trailing_zeros w64 (2 ^ k) (pow_pos k) (pow-lt lt) in
    ⊎_elim
    (λ same. same.1)
    (λ other. absurd (cc (sym found.1 ∙ bit_at-pow_other k place other.1)))
    (eqb_tells place k)

-- the smaller of two powers of two
smaller : (j k : ℕ) → 2 ^ min j k ≡ min (2 ^ j) (2 ^ k)
smaller j k =
    ⊎_elim
    (λ s. let le : j ≤ k = s.1 in let more : 2 ^ j ≤ 2 ^ k = pow_mono s.1 in let is : min j k ≡ j = omega arith in
    ap (λ n. 2 ^ n) is ∙ omega (arith, more))
    (λ s. let lt : k < j = s.1 in let more : 2 ^ k < 2 ^ j = pow-lt s.1 in let is : min j k ≡ k = omega arith in
    ap (λ n. 2 ^ n) is ∙ omega (arith, more))
    (leb_tells j k)

pub shifted : (count size w shift : ℕ) → IsWidth w → shift ≡ min (trailing_zeros w64 w) size → count / 2 ^ shift ≡ count / bytes_per_beat size w
shifted count size w shift (k, few, is) e =
    let zeros : trailing_zeros w64 w ≡ k = ap (trailing_zeros w64) is ∙ zeros-below k (omega (arith, few)) in
    let power : 2 ^ shift ≡ min w (2 ^ size) = ap (λ n. 2 ^ n) (e ∙ ap (λ n. min n size) zeros) ∙ smaller k size ∙
    ap (λ n. min n (2 ^ size)) (sym is) in
    ap (λ n. count / n) power
