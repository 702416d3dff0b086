-- How many far beats one more near beat makes due, whatever the homes are.
use Rattle.tl_convert.proofs.Names.{◌≡◌, ◌≤◌, ◌<◌, ◌+◌, ◌*◌, ◌/◌, ◌^◌, ◌≢◌, ◌++◌, ℕ, true, false, cond, Some, List, [], ◌∷◌, length, take, drop}
use Rattle.tl_convert.proofs.Names.{slice_index, refl, sym, ap, ◌∙◌, arith, ⊎_elim, append_assoc, append-nil, length-append, length_push}
use Rattle.tl_convert.proofs.Names.{take-map-range_with_len, length-map-range_with_len, eqb_tells, mul-le-mul_right, IsWidth, Rules, BeatOf, per_beat}
use Rattle.tl_convert.proofs.Names.{beats_of, beat_at, layout, message_of, ends, rest_after, rest_of, head_of, more-carries, div-up, per-pos}
use Rattle.tl_convert.proofs.Names.{of_cells, near-fill, far-fill, due_after, due, part, far_beats_of, cases_Bool}
use Rattle.tl_convert.specs.Counting.{Gives}

module _ {H : Type 0} (r : Rules H) (w v : ℕ) where
  -- the homes that the whole messages leave, and their far beats
  abbrev homes_after : List (BeatOf H w) → List ℕ → List (BeatOf H w) → List ℕ
  homes_after seen homes [] = homes
  homes_after seen homes (b ∷ bs) = cond (ends r w seen b) (homes_after [] (drop 1 homes) bs) (homes_after (seen ++ b ∷ []) homes bs)

  abbrev outs_after : List (BeatOf H w) → List ℕ → List (BeatOf H w) → List (BeatOf H v)
  outs_after seen homes [] = []
  outs_after seen homes (b ∷ bs) = cond (ends r w seen b)
      (layout r (message_of r b.head w (slice_index homes 0) (seen ++ b ∷ [])) v ++ outs_after [] (drop 1 homes) bs)
      (outs_after (seen ++ b ∷ []) homes bs)

  -- the far beats due for a list are those of its whole messages, followed by those of the rest with the beats after it
  due-split : (seen : List (BeatOf H w)) (homes : List ℕ) (bs ys : List (BeatOf H w)) →
      due_after r w v seen homes (bs ++ ys) ≡ outs_after seen homes bs ++ due_after r w v (rest_after r w seen bs) (homes_after seen homes bs) ys
  due-split seen homes [] ys = refl
  due-split seen homes (b ∷ bs) ys =
      elim (ends r w seen b) as (λ e.
      cond e (layout r (message_of r b.head w (slice_index homes 0) (seen ++ b ∷ [])) v ++ due_after r w v [] (drop 1 homes) (bs ++ ys))
      (due_after r w v (seen ++ b ∷ []) homes (bs ++ ys)) ≡
      cond e (layout r (message_of r b.head w (slice_index homes 0) (seen ++ b ∷ [])) v ++ outs_after [] (drop 1 homes) bs)
      (outs_after (seen ++ b ∷ []) homes bs) ++
      due_after r w v (cond e (rest_after r w [] bs) (rest_after r w (seen ++ b ∷ []) bs))
      (cond e (homes_after [] (drop 1 homes) bs) (homes_after (seen ++ b ∷ []) homes bs)) ys) [
        | true ↦ rw append_assoc (ap (λ zs. layout r (message_of r b.head w (slice_index homes 0) (seen ++ b ∷ [])) v ++ zs)
            (due-split [] (drop 1 homes) bs ys))
        | false ↦ due-split (seen ++ b ∷ []) homes bs ys
      ]

  module _ (ww : IsWidth w) (vw : IsWidth v) where
    -- as many far beats are due of a rest as have all their bytes
    part-length : (h : H) (x : ℕ) (bs : List (BeatOf H w)) → ((g : H) → head_of bs ≡ Some g → g ≡ h) → length bs < beats_of r h w →
        length (part r w v x bs) ≡ far_beats_of r h w v (length bs)
    part-length h x [] heads lt =
        let pp : 0 < per_beat r h v = per-pos r (of_cells r h x []) v vw in
        let z : 0 * per_beat r h w ≡ 0 = omega arith in
        let q : 0 * per_beat r h w / per_beat r h v ≡ 0 = omega arith in
        sym q
    part-length h x (a ∷ xs) heads lt =
        let e : a.head ≡ h = heads a.head refl in
        let carries : r.carries h ≡ true = more-carries r h w (λ q. absurd (omega arith)) in
        let pp : 0 < per_beat r h v = per-pos r (of_cells r h x []) v vw in
        let fill : beats_of r h w * per_beat r h w ≡ 2 ^ r.size h = near-fill r h w v x ww vw carries in
        let few : length (a ∷ xs) * per_beat r h w ≤ beats_of r h w * per_beat r h w = grind (arith, mul-le-mul_right) in
        let up : far_beats_of r h w v (length (a ∷ xs)) ≤ 2 ^ r.size h / per_beat r h v =
        div-up (length (a ∷ xs) * per_beat r h w) (2 ^ r.size h) (per_beat r h v) pp (omega arith) in
        let far : beats_of r h v ≡ 2 ^ r.size h / per_beat r h v = far-fill r h w v x ww vw carries in
        ap (λ g. length (take (far_beats_of r g w v (length (a ∷ xs))) (layout r (message_of r g w x (a ∷ xs)) v))) e ∙
        ap length (take-map-range_with_len (beat_at r (message_of r h w x (a ∷ xs)) v) 0 (beats_of r h v) (far_beats_of r h w v (length (a ∷ xs)))
        (omega arith)) ∙
        length-map-range_with_len (beat_at r (message_of r h w x (a ∷ xs)) v) 0 (far_beats_of r h w v (length (a ∷ xs)))

    -- and of a whole message as many as it has
    whole-length : (h : H) (x : ℕ) (bs : List (BeatOf H w)) → length (layout r (message_of r h w x bs) v) ≡ beats_of r h v
    whole-length h x bs = length-map-range_with_len (beat_at r (message_of r h w x bs) v) 0 (beats_of r h v)

    whole-count : (h : H) → r.carries h ≡ true → far_beats_of r h w v (beats_of r h w) ≡ beats_of r h v
    whole-count h carries =
        ap (λ n. n / per_beat r h v) (near-fill r h w v 0 ww vw carries) ∙ sym (far-fill r h w v 0 ww vw carries)

    none-of : (h : H) → far_beats_of r h w v 0 ≡ 0
    none-of h =
        let pp : 0 < per_beat r h v = per-pos r (of_cells r h 0 []) v vw in
        let z : 0 * per_beat r h w ≡ 0 = omega arith in
        ap (λ n. n / per_beat r h v) z ∙ omega arith

    heads-more : (rest : List (BeatOf H w)) (b : BeatOf H w) → ((g : H) → head_of rest ≡ Some g → g ≡ b.head) →
        (g : H) → head_of (rest ++ b ∷ []) ≡ Some g → g ≡ b.head
    heads-more [] b heads g e = let q : b.head ≡ g = cc in sym q
    heads-more (a ∷ rest) b heads g e = heads g e

    step-length : (x : ℕ) (hs : List ℕ) (rest : List (BeatOf H w)) (b : BeatOf H w) (given : ℕ) → ((g : H) → head_of rest ≡ Some g → g ≡ b.head) →
        length rest < beats_of r b.head w → Gives r w v b.head (length rest) given →
        length (due_after r w v rest hs (b ∷ [])) ≡ length (part r w v x rest) + given
    step-length x hs rest b given heads lt gives =
        let n : length (rest ++ b ∷ []) ≡ length rest + 1 = length_push rest b in
        let before : length (part r w v x rest) ≡ far_beats_of r b.head w v (length rest) = part-length b.head x rest heads lt in
        ⊎_elim
        (λ s.
        let t : ends r w rest b ≡ true = s.0 in
        let all : length (due_after r w v rest hs (b ∷ [])) ≡ beats_of r b.head v =
        rw t (ap length (append-nil (layout r (message_of r b.head w (slice_index hs 0) (rest ++ b ∷ [])) v)) ∙
        whole-length b.head (slice_index hs 0) (rest ++ b ∷ [])) in
        ⊎_elim
        (λ carries.
        let k : given + far_beats_of r b.head w v (length rest) ≡ far_beats_of r b.head w v (length rest + 1) = gives.data_beat carries in
        let last : far_beats_of r b.head w v (length rest + 1) ≡ beats_of r b.head v = ap (far_beats_of r b.head w v) s.1 ∙
        whole-count b.head carries in
        omega arith)
        (λ empty.
        let k : given ≡ 1 = gives.no_data empty in
        let one : beats_of r b.head v ≡ 1 = rw empty refl in
        let near : beats_of r b.head w ≡ 1 = rw empty refl in
        let e : length rest + 1 ≡ beats_of r b.head w = s.1 in
        let none_yet : length rest ≡ 0 = omega arith in
        let z : far_beats_of r b.head w v (length rest) ≡ 0 = ap (far_beats_of r b.head w v) none_yet ∙ none-of b.head in
        omega arith)
        (cases_Bool (r.carries b.head)))
        (λ s.
        let t : ends r w rest b ≡ false = s.0 in
        let ne : length rest + 1 ≢ beats_of r b.head w = s.1 in
        let more : length (rest ++ b ∷ []) < beats_of r b.head w = omega arith in
        let carries : r.carries b.head ≡ true = more-carries r b.head w (λ q. absurd (omega arith)) in
        let k : given + far_beats_of r b.head w v (length rest) ≡ far_beats_of r b.head w v (length rest + 1) = gives.data_beat carries in
        let all : length (due_after r w v rest hs (b ∷ [])) ≡ far_beats_of r b.head w v (length rest + 1) =
        rw t (part-length b.head (slice_index hs 0) (rest ++ b ∷ []) (heads-more rest b heads) more ∙ ap (far_beats_of r b.head w v) n) in
        omega arith)
        (eqb_tells (length rest + 1) (beats_of r b.head w))

    pub count-more : (homes : List ℕ) (bs : List (BeatOf H w)) (b : BeatOf H w) (given : ℕ) →
        ((g : H) → head_of (rest_of r w bs) ≡ Some g → g ≡ b.head) →
        length (rest_of r w bs) < beats_of r b.head w → Gives r w v b.head (length (rest_of r w bs)) given →
        length (due r w v (bs ++ b ∷ []) homes) ≡ length (due r w v bs homes) + given
    count-more homes bs b given heads lt gives =
        let hs : List ℕ = homes_after [] homes bs in
        let after : length (due r w v (bs ++ b ∷ []) homes) ≡
        length (outs_after [] homes bs) + length (due_after r w v (rest_of r w bs) (homes_after [] homes bs) (b ∷ [])) =
        ap length (due-split [] homes bs (b ∷ [])) ∙ length-append (outs_after [] homes bs)
        (due_after r w v (rest_of r w bs) (homes_after [] homes bs) (b ∷ [])) in
        let before : length (due r w v bs homes) ≡
        length (outs_after [] homes bs) + length (part r w v (slice_index (homes_after [] homes bs) 0) (rest_of r w bs)) =
        ap length (ap (λ q. due r w v q homes) (sym (append-nil bs)) ∙ due-split [] homes bs []) ∙
        length-append (outs_after [] homes bs) (part r w v (slice_index (homes_after [] homes bs) 0) (rest_of r w bs)) in
        let step : length (due_after r w v (rest_of r w bs) (homes_after [] homes bs) (b ∷ [])) ≡
        length (part r w v (slice_index (homes_after [] homes bs) 0) (rest_of r w bs)) + given =
        step-length (slice_index (homes_after [] homes bs) 0) (homes_after [] homes bs) (rest_of r w bs) b given heads lt gives in
        omega arith
