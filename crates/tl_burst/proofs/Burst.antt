-- How many beats a message has, and the rest after one more beat.
use Rattle.tl_burst.proofs.Names.{◌≡◌, ◌≤◌, ◌<◌, ◌/◌, ◌^◌, ◌≢◌, ℕ, Bool, true, false, cond, List, [], ◌∷◌, ◌++◌, refl, arith, rules, div-le_self}
use Rattle.tl_burst.proofs.Names.{Rules, BeatOf, IsWidth, bytes_per_beat, beats_per_message, width_bounds, beats_of, ends, rest_after}
use Rattle.std.proofs.lemmas.Nat.{le-div}
use Rattle.std.proofs.Math.Pow.{pow_mono}

count-bounds : (carries : Bool) (size w : ℕ) → IsWidth w → size ≤ 12 → (0 < beats_per_message carries size w) ×
    (beats_per_message carries size w ≤ 4096)
count-bounds false size w width small = (omega arith, omega arith)
count-bounds true size w width small =
    let b = width_bounds w width in
    let q : 0 < 2 ^ size = search rules in
    let p : 0 < bytes_per_beat size w = omega arith in
    let l : bytes_per_beat size w ≤ 2 ^ size = omega arith in
    let one : 1 ≤ 2 ^ size / bytes_per_beat size w = le-div 1 (2 ^ size) (bytes_per_beat size w) p (omega arith) in
    let up : 2 ^ size ≤ 2 ^ 12 = pow_mono small in
    let down : 2 ^ size / bytes_per_beat size w ≤ 2 ^ size = div-le_self (2 ^ size) (bytes_per_beat size w) in
    (omega arith, omega arith)

-- a message has from 1 to 4,096 beats
pub beats-bounds : {H : Type 0} (r : Rules H) (h : H) (w : ℕ) → IsWidth w → r.size h ≤ 12 → (0 < beats_of r h w) × (beats_of r h w ≤ 4096)
beats-bounds r h w width small = count-bounds (r.carries h) (r.size h) w width small

some-by : (carries : Bool) (size w : ℕ) → IsWidth w → 0 < beats_per_message carries size w
some-by false size w width = omega arith
some-by true size w width =
    let b = width_bounds w width in
    let q : 0 < 2 ^ size = search rules in
    let p : 0 < bytes_per_beat size w = omega arith in
    let l : bytes_per_beat size w ≤ 2 ^ size = omega arith in
    let one : 1 ≤ 2 ^ size / bytes_per_beat size w = le-div 1 (2 ^ size) (bytes_per_beat size w) p (omega arith) in
    omega arith

-- a message has a beat, whatever its size
pub some-beats : {H : Type 0} (r : Rules H) (h : H) (w : ℕ) → IsWidth w → 0 < beats_of r h w
some-beats r h w width = some-by (r.carries h) (r.size h) w width

count-one : (carries : Bool) (size w : ℕ) → beats_per_message carries size w ≢ 1 → carries ≡ true
count-one true size w ne = refl
count-one false size w ne = absurd (ne refl)

-- a message of more than one beat carries data
pub more-carries : {H : Type 0} (r : Rules H) (h : H) (w : ℕ) → beats_of r h w ≢ 1 → r.carries h ≡ true
more-carries r h w ne = count-one (r.carries h) (r.size h) w ne

module _ {H : Type 0} (r : Rules H) (w : ℕ) where
  -- the rest after one more beat
  pub rest-snoc : (seen bs : List (BeatOf H w)) (b : BeatOf H w) →
      rest_after r w seen (bs ++ b ∷ []) ≡ cond (ends r w (rest_after r w seen bs) b) [] (rest_after r w seen bs ++ b ∷ [])
  rest-snoc seen [] b = refl
  rest-snoc seen (x ∷ bs) b =
      elim (ends r w seen x) as (λ e. cond e (rest_after r w [] (bs ++ b ∷ [])) (rest_after r w (seen ++ x ∷ []) (bs ++ b ∷ [])) ≡
      cond (ends r w (cond e (rest_after r w [] bs) (rest_after r w (seen ++ x ∷ []) bs)) b) []
      (cond e (rest_after r w [] bs) (rest_after r w (seen ++ x ∷ []) bs) ++ b ∷ [])) [
        | true ↦ rest-snoc [] bs b
        | false ↦ rest-snoc (seen ++ x ∷ []) bs b
      ]
