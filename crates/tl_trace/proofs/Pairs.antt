-- The two digits of a lane.
use Rattle.tl_trace.proofs.Names.{◌≡◌, ℕ, zero, suc, ◌+◌, ◌-◌, ◌*◌, ◌/◌, ◌%◌, ◌<◌, true, nat_lt, List, [], ◌∷◌, ◌++◌, length, get_or, ap, ◌∙◌, arith}
use Rattle.tl_trace.proofs.Names.{sym, ltb-true, and_parts, list_all, slice_index, digit_value, digit_char, number_of_lanes, hex, is_lanes, get_or_at}
use Rattle.tl_trace.proofs.Names.{get_or-append-add, get_or_append_left}
use Rattle.tl_trace.proofs.HexText.{length-hex, two_digits}
use Rattle.std.proofs.lemmas.Str.{digit_value-digit_char}
use Rattle.tl_trace.proofs.ReadDigits.{lanes_parts}

-- the two digits at a place, read in base 16
abbrev pub pair_at : List ℕ → ℕ → ℕ
pair_at ds i = digit_value (slice_index ds i) * 16 + digit_value (slice_index ds (i + 1))

get_back : (xs : List ℕ) (a b i : ℕ) → length xs ≡ i → (get_or (xs ++ a ∷ b ∷ []) i 0 ≡ a) × (get_or (xs ++ a ∷ b ∷ []) (i + 1) 0 ≡ b)
get_back xs a b i e =
    let next : length xs + 1 ≡ i + 1 = omega arith in
    (get_or_at xs a (b ∷ []) 0 i e, ap (λ (n : ℕ). get_or (xs ++ a ∷ b ∷ []) n 0) (sym next) ∙ get_or-append-add xs (a ∷ b ∷ []) 1 0)

pub pairs : (w l : ℕ) (lanes : List ℕ) → length lanes ≡ w → list_all (λ lane. nat_lt lane 256) lanes ≡ true → l < w
    → pair_at (hex (2 * w) (number_of_lanes lanes)) (2 * (w - 1 - l)) ≡ get_or lanes l 0
pairs zero l lanes long bytes lt = absurd (omega arith)
pairs (suc w) l [] long bytes lt = absurd (omega arith)
pairs (suc w) zero (lane ∷ lanes) long bytes lt =
    let small = ltb-true lane 256 (and_parts (nat_lt lane 256) (list_all (λ lane. nat_lt lane 256) lanes) bytes).0 in
    let rest = hex (2 * w) (number_of_lanes lanes) in
    let high = digit_char (lane / 16 % 16) in
    let low = digit_char (lane % 16) in
    let place : 2 * (suc w - 1 - 0) ≡ 2 * w = omega arith in
    let two = get_back rest high low (2 * w) (length-hex (2 * w) (number_of_lanes lanes)) in
    let above = digit_value-digit_char (lane / 16 % 16) (omega arith) in
    let below = digit_value-digit_char (lane % 16) (omega arith) in
    ap (λ (ds : List ℕ). pair_at ds (2 * (suc w - 1 - 0))) (two_digits w lane (number_of_lanes lanes) small)
    ∙ ap (λ (i : ℕ). pair_at (rest ++ high ∷ low ∷ []) i) place
    ∙ ap (λ (d : ℕ). digit_value d * 16 + digit_value (slice_index (rest ++ high ∷ low ∷ []) (2 * w + 1))) two.0
    ∙ ap (λ (d : ℕ). digit_value high * 16 + digit_value d) two.1 ∙ omega (arith, above, below)
pairs (suc w) (suc l) (lane ∷ lanes) long bytes lt =
    let small = ltb-true lane 256 (and_parts (nat_lt lane 256) (list_all (λ lane. nat_lt lane 256) lanes) bytes).0 in
    let rest = hex (2 * w) (number_of_lanes lanes) in
    let high = digit_char (lane / 16 % 16) in
    let low = digit_char (lane % 16) in
    let i = 2 * (w - 1 - l) in
    let place : 2 * (suc w - 1 - suc l) ≡ i = omega arith in
    let size = length-hex (2 * w) (number_of_lanes lanes) in
    let first = get_or_append_left rest (high ∷ low ∷ []) 0 i (omega (arith, size)) in
    let second = get_or_append_left rest (high ∷ low ∷ []) 0 (i + 1) (omega (arith, size)) in
    ap (λ (ds : List ℕ). pair_at ds (2 * (suc w - 1 - suc l))) (two_digits w lane (number_of_lanes lanes) small)
    ∙ ap (λ (k : ℕ). pair_at (rest ++ high ∷ low ∷ []) k) place
    ∙ ap (λ (d : ℕ). digit_value d * 16 + digit_value (slice_index (rest ++ high ∷ low ∷ []) (i + 1))) first
    ∙ ap (λ (d : ℕ). digit_value (slice_index rest i) * 16 + digit_value d) second
    ∙ pairs w l lanes (omega arith) (and_parts (nat_lt lane 256) (list_all (λ lane. nat_lt lane 256) lanes) bytes).1 (omega arith)

pub by_pairs : (w l : ℕ) (lanes : List ℕ) → is_lanes w lanes ≡ true → l < w
    → pair_at (hex (2 * w) (number_of_lanes lanes)) (2 * (w - 1 - l)) ≡ get_or lanes l 0
by_pairs w l lanes is lt = let parts = lanes_parts w lanes is in pairs w l lanes parts.0 parts.1 lt
