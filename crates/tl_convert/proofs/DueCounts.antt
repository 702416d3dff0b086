-- The number of far beats that are due: it does not depend on the homes, and more near beats do not make it smaller.
use Rattle.tl_convert.proofs.Names.{◌≡◌, ◌≤◌, ◌<◌, ◌+◌, ◌*◌, ◌/◌, ◌^◌, ◌⊎◌, ℕ, Bool, true, false, cond, List, [], ◌∷◌, ◌++◌, length, drop, refl, sym}
use Rattle.tl_convert.proofs.Names.{ap, subst, ◌∙◌, arith, zero-le, ⊎_elim, length-append, min-eq_left, min-le_left, min-le_right, mul-le-mul_left}
use Rattle.tl_convert.proofs.Names.{div-mul-le_self, div_self, div-eq_of_lt, le_trans, pow_pos, length_push, length-take, length-map-range_with_len}
use Rattle.tl_convert.proofs.Names.{le-div, min, slice_index, bytes_per_beat, beats_per_message, Rules, BeatOf, beats_of, beat_at, layout, message_of}
use Rattle.tl_convert.proofs.Names.{ends, far_beats_of, part, due_after, due}
use Rattle.tl_convert.proofs.Begins.{some_beats, more-due}
use Rattle.tl_convert.proofs.Comparisons.{true_equal}
use Rattle.tl_convert.proofs.Extends.{both, both-two}

-- ---- numbers

split : (x y : ℕ) → (x ≤ y) ⊎ (y < x)
split x y = grind arith

min_below : (x y : ℕ) → y < x → min x y ≡ y
min_below x y l = omega arith

min_grows : (x y z : ℕ) → x ≤ y → min x z ≤ min y z
min_grows x y z l = omega arith

-- n near beats of a message of s bytes, with w bytes per beat, fill at most as many far beats as another message of t bytes has, if that one has
-- at least one near beat more
parts_within : (w v s t n : ℕ) → 0 < v → 0 < t → 1 ≤ n → n + 1 ≡ t / min w t → v ≤ s → n * min w s / min v s ≤ t / min v t
parts_within w v s t n wide some several count fits =
    let m : min v s ≡ v = min-eq_left fits in
    ⊎_elim
    (λ (within : w ≤ t).
    let near : n + 1 ≡ t / w = count ∙ ap (λ x. t / x) (min-eq_left within) in
    let all : (n + 1) * w ≤ t = subst (λ x. x * w ≤ t) (sym near) (div-mul-le_self t w) in
    let some : n * min w s ≤ n * w = mul-le-mul_left n (min-le_left w s) in
    let bytes : n * min w s ≤ t = omega arith in
    ⊎_elim
    (λ (far : v ≤ t).
    subst (λ x. n * min w s / x ≤ t / min v t) (sym m)
    (subst (λ x. n * min w s / v ≤ t / x) (sym (min-eq_left far))
    (le-div (n * min w s / v) t v wide (le_trans (div-mul-le_self (n * min w s) v) bytes))))
    (λ (one : t < v).
    let less : n * min w s < v = omega arith in
    let none : n * min w s / v ≡ 0 = div-eq_of_lt less in
    subst (λ x. n * min w s / x ≤ t / min v t) (sym m) (subst (λ x. x ≤ t / min v t) (sym none) zero-le))
    (split v t))
    (λ (one : t < w).
    let single : n + 1 ≡ 1 = count ∙ ap (λ x. t / x) (min_below w t one) ∙ div_self some in
    absurd (omega arith))
    (split w t)

-- the same with messages that carry data or don't
whole_covers : (w v p q n : ℕ) (c d : Bool) → 0 < v → 1 ≤ n → n + 1 ≡ beats_per_message d q w → 0 < beats_per_message d q v →
    min (n * bytes_per_beat p w / bytes_per_beat p v) (beats_per_message c p v) ≤ beats_per_message d q v
whole_covers w v p q n false d wide several count one =
    let l = min-le_right (n * bytes_per_beat p w / bytes_per_beat p v) 1 in omega arith
whole_covers w v p q n true false wide several count one = absurd (omega arith)
whole_covers w v p q n true true wide several count one =
    ⊎_elim
    (λ (fits : v ≤ 2 ^ p).
    le_trans (min-le_left (n * bytes_per_beat p w / bytes_per_beat p v) (2 ^ p / min v (2 ^ p)))
    (parts_within w v (2 ^ p) (2 ^ q) n wide (pow_pos q) several count fits))
    (λ (small : 2 ^ p < v).
    let single : 2 ^ p / min v (2 ^ p) ≡ 1 = ap (λ x. 2 ^ p / x) (min_below v (2 ^ p) small) ∙ div_self (pow_pos p) in
    let l = min-le_right (n * bytes_per_beat p w / bytes_per_beat p v) (2 ^ p / min v (2 ^ p)) in
    le_trans l (subst (λ x. x ≤ 2 ^ q / min v (2 ^ q)) (sym single) one))
    (split v (2 ^ p))

-- ---- beats

module _ {H : Type 0} (r : Rules H) (w v : ℕ) where
  -- how many far beats are due of a rest, and how many of a list
  abbrev part_count : List (BeatOf H w) → ℕ
  part_count [] = 0
  part_count (b ∷ bs) = min (far_beats_of r b.head w v (length (b ∷ bs))) (beats_of r b.head v)

  abbrev due_count : (seen bs : List (BeatOf H w)) → ℕ
  due_count seen [] = part_count seen
  due_count seen (b ∷ bs) = cond (ends r w seen b) (beats_of r b.head v + due_count [] bs) (due_count (seen ++ b ∷ []) bs)

  part_counted : (home : ℕ) (rest : List (BeatOf H w)) → length (part r w v home rest) ≡ part_count rest
  part_counted home [] = refl
  part_counted home (b ∷ bs) =
      length-take (far_beats_of r b.head w v (length (b ∷ bs))) (layout r (message_of r b.head w home (b ∷ bs)) v) ∙
      ap (λ n. min (far_beats_of r b.head w v (length (b ∷ bs))) n)
      (length-map-range_with_len (beat_at r (message_of r b.head w home (b ∷ bs)) v) 0 (beats_of r b.head v))

  due_counted : (seen : List (BeatOf H w)) (homes : List ℕ) (bs : List (BeatOf H w)) → length (due_after r w v seen homes bs) ≡ due_count seen bs
  due_counted seen homes [] = part_counted (slice_index homes 0) seen
  due_counted seen homes (b ∷ bs) =
      let first : List (BeatOf H v) = layout r (message_of r b.head w (slice_index homes 0) (seen ++ b ∷ [])) v in
      both-two (λ xs n. length xs ≡ n) (ends r w seen b)
      (length-append first (due_after r w v [] (drop 1 homes) bs) ∙
      ap (λ n. n + length (due_after r w v [] (drop 1 homes) bs))
      (length-map-range_with_len (beat_at r (message_of r b.head w (slice_index homes 0) (seen ++ b ∷ [])) v) 0 (beats_of r b.head v)) ∙
      ap (λ n. beats_of r b.head v + n) (due_counted [] (drop 1 homes) bs))
      (due_counted (seen ++ b ∷ []) homes bs)

  module _ (wide : 0 < v) where
    -- a rest with one more beat
    part_grows : (rest : List (BeatOf H w)) (b : BeatOf H w) → part_count rest ≤ part_count (rest ++ b ∷ [])
    part_grows [] b = zero-le
    part_grows (x ∷ xs) b =
        let n : length (xs ++ b ∷ []) ≡ length xs + 1 = length_push xs b in
        min_grows (far_beats_of r x.head w v (length (x ∷ xs))) (far_beats_of r x.head w v (length (x ∷ (xs ++ b ∷ [])))) (beats_of r x.head v)
        (more-due r w v wide x.head (length (x ∷ xs)) (length (x ∷ (xs ++ b ∷ []))) (omega arith))

    -- a rest whose message a beat ends
    part_ends : (rest : List (BeatOf H w)) (b : BeatOf H w) → ends r w rest b ≡ true → part_count rest ≤ beats_of r b.head v
    part_ends [] b e = zero-le
    part_ends (x ∷ xs) b e =
        whole_covers w v (r.size x.head) (r.size b.head) (length (x ∷ xs)) (r.carries x.head) (r.carries b.head) wide (omega arith)
        (true_equal (length (x ∷ xs) + 1) (beats_of r b.head w) e) (some_beats r v wide b.head)

    rest_grows : (seen bs : List (BeatOf H w)) → part_count seen ≤ due_count seen bs
    rest_grows seen [] = omega arith
    rest_grows seen (b ∷ bs) =
        both (λ n. part_count seen ≤ n) (ends r w seen b)
        (λ e. let l : part_count seen ≤ beats_of r b.head v = part_ends seen b e in omega arith)
        (λ e. le_trans (part_grows seen b) (rest_grows (seen ++ b ∷ []) bs))

    count_grows : (seen bs more : List (BeatOf H w)) → due_count seen bs ≤ due_count seen (bs ++ more)
    count_grows seen [] more = rest_grows seen more
    count_grows seen (b ∷ bs) more =
        both-two (λ m n. m ≤ n) (ends r w seen b)
        (let l : due_count [] bs ≤ due_count [] (bs ++ more) = count_grows [] bs more in omega arith)
        (count_grows (seen ++ b ∷ []) bs more)

    -- more near beats make no fewer far beats due, whatever the homes
    pub due_length : (bs more : List (BeatOf H w)) (hs ks : List ℕ) → length (due r w v bs hs) ≤ length (due r w v (bs ++ more) ks)
    due_length bs more hs ks =
        let before : length (due r w v bs hs) ≡ due_count [] bs = due_counted [] hs bs in
        let after : length (due r w v (bs ++ more) ks) ≡ due_count [] (bs ++ more) = due_counted [] ks (bs ++ more) in
        let l : due_count [] bs ≤ due_count [] (bs ++ more) = count_grows [] bs more in
        omega arith
