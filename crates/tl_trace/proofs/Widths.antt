-- Facts for crates above: the widths and lanes of a trace.
use Rattle.tl_trace.proofs.Names.{◌≡◌, ℕ, zero, suc, ◌+◌, ◌*◌, ◌^◌, ◌<◌, ◌≤◌, true, false, cond, nat_lt, List, [], ◌∷◌, length, get_or, refl, sym}
use Rattle.tl_trace.proofs.Names.{◌∙◌, arith, lit≤, subst, ◌==◌, pow-suc, eqb-true, ltb-true, and_parts, Any-from_list_any, Any, list_all}
use Rattle.tl_trace.proofs.Names.{slice_index, WIDEST, WIDEST_POWER, width_bounds, number_of_lanes, widest_power, widths, is_width}
use Rattle.std.proofs.lemmas.List.FromFn.{get_or-map-range_with_len, length-map-range_with_len}
use Rattle.tl_lanes.specs.Lanes.{IsWidth}

widest_most : (version : ℕ) → widest_power version ≤ WIDEST_POWER
widest_most version = elim (version == 1) as (λ b. cond b 6 WIDEST_POWER ≤ WIDEST_POWER) [ true ↦ omega arith | false ↦ omega arith ]

power_of : (version w : ℕ) → Any (λ x. (w == x) ≡ true) (widths version) → IsWidth w
power_of version w (k, x, lt, at, test) =
    let below : k < widest_power version + 1 = omega (arith, lt, length-map-range_with_len (λ j. 2 ^ j) 0 (widest_power version + 1)) in
    let power : get_or (widths version) k x ≡ 2 ^ k = get_or-map-range_with_len (λ j. 2 ^ j) 0 (widest_power version + 1) k k x below (omega arith) in
    (k, omega (arith, below, widest_most version), eqb-true w x test ∙ sym at ∙ power)

-- a width that a header can name is one of a link
pub width_of : (version w : ℕ) → is_width version w ≡ true → IsWidth w
width_of version w e = power_of version w (Any-from_list_any (λ x. w == x) (widths version) e)

pub width_most : (version w : ℕ) → is_width version w ≡ true → w ≤ WIDEST
width_most version w e = (width_bounds w (width_of version w e)).1

-- bytes fit the digits of their lanes
pub lanes_fit : (lanes : List ℕ) → list_all (λ lane. nat_lt lane 256) lanes ≡ true → number_of_lanes lanes < 256 ^ length lanes
lanes_fit [] bytes = lit≤ tt
lanes_fit (lane ∷ lanes) bytes =
    let small = ltb-true lane 256 (and_parts (nat_lt lane 256) (list_all (λ lane. nat_lt lane 256) lanes) bytes).0 in
    let rest = lanes_fit lanes (and_parts (nat_lt lane 256) (list_all (λ lane. nat_lt lane 256) lanes) bytes).1 in
    let most : 256 ^ suc (length lanes) ≡ 256 ^ length lanes * 256 = pow-suc 256 (length lanes) in
    let here : length (lane ∷ lanes) ≡ suc (length lanes) = refl in
    let P : ℕ → Type 0 = λ k. number_of_lanes (lane ∷ lanes) < 256 ^ k in
    let there : number_of_lanes (lane ∷ lanes) < 256 ^ suc (length lanes) = omega arith in
    subst P (sym here) there

-- lanes at and past the width are 0
pub zero_past : (w l : ℕ) (lanes : List ℕ) → number_of_lanes lanes < 256 ^ w → w ≤ l → slice_index lanes l ≡ 0
zero_past w l [] lt le = refl
zero_past zero zero (lane ∷ lanes) lt le = omega arith
zero_past zero (suc l) (lane ∷ lanes) lt le =
    let none : number_of_lanes lanes < 256 ^ zero = omega arith in
    zero_past zero l lanes none (omega arith)
zero_past (suc w) zero (lane ∷ lanes) lt le = absurd (omega arith)
zero_past (suc w) (suc l) (lane ∷ lanes) lt le =
    let most : 256 ^ suc w ≡ 256 ^ w * 256 = pow-suc 256 w in
    let less : number_of_lanes lanes < 256 ^ w = omega arith in
    zero_past w l lanes less (omega arith)
