-- Lanes from a later byte on.
use Rattle.tl_burst.proofs.Names.{◌≡◌, ◌≤◌, ◌<◌, ◌+◌, ◌%◌, ◌^◌, ℕ, sym, ap, ◌∙◌, arith, ⊎_elim, leb_tells, mod-add-mod, mod-eq_of_lt, IsWidth}
use Rattle.tl_burst.proofs.Names.{lane_of, bytes_per_beat, lane-plain}

-- byte i and byte i modulo a beat are on the same lane
pub same-lane : (x i size w : ℕ) → IsWidth w → i < 2 ^ size → lane_of x (i % bytes_per_beat size w) w ≡ lane_of x i w
same-lane x i size w ww lt =
    ⊎_elim
    (λ s.
    let le : w ≤ 2 ^ size = s.1 in
    let p : bytes_per_beat size w ≡ w = omega arith in
    let a : (i % w + x) % w ≡ (i + x) % w = mod-add-mod i w x in
    let b : x + i % w ≡ i % w + x = omega arith in
    let c : x + i ≡ i + x = omega arith in
    ap (λ n. lane_of x (i % n) w) p ∙ lane-plain x (i % w) w ww ∙ ap (λ n. n % w) b ∙ a ∙ ap (λ n. n % w) (sym c) ∙ sym (lane-plain x i w ww))
    (λ s.
    let lw : 2 ^ size < w = s.1 in
    let p : bytes_per_beat size w ≡ 2 ^ size = omega arith in
    ap (λ n. lane_of x (i % n) w) p ∙ ap (λ n. lane_of x n w) (mod-eq_of_lt lt))
    (leb_tells w (2 ^ size))
