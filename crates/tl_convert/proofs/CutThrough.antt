-- A far beat is due as soon as the near beat that carries its last byte is accepted.
use Rattle.tl_convert.proofs.Names.{◌≡◌, ◌≤◌, ◌<◌, ◌+◌, ◌-◌, ◌*◌, ◌/◌, ◌≢◌, ◌++◌, ℕ, suc, true, List, [], ◌∷◌, length, slice_get}
use Rattle.tl_convert.proofs.Names.{sym, ap, ◌∙◌, arith, ⊎_elim, length-map-range_with_len}
use Rattle.tl_convert.proofs.Names.{div-lt_iff_lt-mul, le-div, take-map-range_with_len, Rules, BeatOf, IsWidth, Message, per_beat}
use Rattle.tl_convert.proofs.Names.{beats_of, beat_at, Handed, due, far_beats_of, layouts, Begins, within, per-pos}
use Rattle.std.proofs.lemmas.Bool.{cases_lt}
use Rattle.std.proofs.lemmas.Option.{slice_get_past}
use Rattle.tl_burst.proofs.RunSpelled.{get-range}
use Rattle.tl_convert.specs.CutThrough.{CutThrough}
use Rattle.tl_convert.proofs.FarHanded.{first_beats, far-proper}
use Rattle.tl_convert.proofs.DueOne.{due-is, due-computed}

-- the last byte of far beat j is on one of the first k near beats if and only if their bytes fill more than j far beats
filled_by : (j k p q : ℕ) → 0 < p → ((j + 1) * q - 1) / p < k → 0 < q → j < k * p / q
filled_by j k p q pp lt qp =
    let before : (j + 1) * q - 1 < k * p = (div-lt_iff_lt-mul pp).0 lt in
    let up : j + 1 ≤ k * p / q = le-div (j + 1) (k * p) q qp (omega (arith, before)) in
    omega (arith, up)

not_filled_by : (j k p q : ℕ) → 0 < p → k ≤ ((j + 1) * q - 1) / p → 0 < q → k * p / q ≤ j
not_filled_by j k p q pp le qp = ⊎_elim
    (λ before.
    let lt : ((j + 1) * q - 1) / p < k = (div-lt_iff_lt-mul pp).1 before in
    absurd (omega (arith, lt, le)))
    (λ behind.
    let some : (j + 1) * q ≡ j * q + q = grind arith in
    let short : k * p < (j + 1) * q = omega (arith, behind, some, qp) in
    let lt : k * p / q < j + 1 = (div-lt_iff_lt-mul qp).1 short in
    omega (arith, lt))
    (cases_lt ((j + 1) * q - 1) (k * p))

get_right : {A : Type 0} (xs ys : List A) (k : ℕ) → slice_get (xs ++ ys) (length xs + k) ≡ slice_get ys k
get_right [] ys k = let same : 0 + k ≡ k = omega arith in ap (λ n. slice_get ys n) same
get_right (x ∷ xs) ys k =
    let same : length (x ∷ xs) + k ≡ suc (length xs + k) = omega arith in
    ap (λ n. slice_get (x ∷ (xs ++ ys)) n) same ∙ get_right xs ys k

module _ {H : Type 0} (r : Rules H) (w v : ℕ) (ww : IsWidth w) (vw : IsWidth v) (partial_masked : (h : H) → r.partial h ≡ true → r.masked ≡ true)
  where
    -- the far beats due for the message that the rest begins are its first far beats
    begun_due : {bs : List (BeatOf H w)} {homes : List ℕ} {ms : List (Message H)} {rest : List (BeatOf H w)} → Handed r w bs homes ms rest →
        (m : Message H) → rest ≢ [] → Begins r m (slice_get homes (length ms)) rest →
        due r w v bs homes ≡ layouts r v ms ++ first_beats r m v (far_beats_of r m.head w v (length rest))
    begun_due {ms = ms} {rest = rest} h m ne b =
        let lt : far_beats_of r m.head w v (length rest) < beats_of r m.head v =
        far-proper r w v ww vw partial_masked m rest b.more b.lawful b.spells ne b.left in
        sym (due-computed r w v ww vw partial_masked h (within m rest ne b)) ∙
        ap (λ y. layouts r v ms ++ y)
        (take-map-range_with_len (beat_at r m v) 0 (beats_of r m.head v) (far_beats_of r m.head w v (length rest)) (omega arith))

    pub is_cut_through : CutThrough r w v
    is_cut_through bs homes ms rest h = record {
      whole = (_, sym (due-is r w v ww vw partial_masked h));
      due_at_once = λ m ne b j lt.
          let n : ℕ = far_beats_of r m.head w v (length rest) in
          ap (λ far. slice_get far (length (layouts r v ms) + j)) (begun_due h m ne b) ∙ get_right (layouts r v ms) (first_beats r m v n) j ∙
          get-range (beat_at r m v) n j
          (filled_by j (length rest) (per_beat r m.head w) (per_beat r m.head v) (per-pos r m w ww) lt (per-pos r m v vw));
      due_no_sooner = λ m ne b j le.
          let n : ℕ = far_beats_of r m.head w v (length rest) in
          let few : n ≤ j =
          not_filled_by j (length rest) (per_beat r m.head w) (per_beat r m.head v) (per-pos r m w ww) le (per-pos r m v vw) in
          let count : length (first_beats r m v n) ≡ n = length-map-range_with_len (beat_at r m v) 0 n in
          ap (λ far. slice_get far (length (layouts r v ms) + j)) (begun_due h m ne b) ∙ get_right (layouts r v ms) (first_beats r m v n) j ∙
          slice_get_past (first_beats r m v n) j (omega (arith, few, count));
    }
