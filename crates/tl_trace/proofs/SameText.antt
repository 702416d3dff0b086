-- Two texts are the same if their words are.
use Rattle.tl_trace.proofs.Names.{◌≡◌, ◌≤◌, ◌<◌, ◌+◌, ◌-◌, ◌*◌, ℕ, suc, List, [], ◌∷◌, ◌++◌, length, get_or, take, drop, inl, inr, drop-cons, refl}
use Rattle.tl_trace.proofs.Names.{sym, ap, ◌∙◌, arith, take-add, cases_lt, get_or-take, get_or-drop, take-take, take-append-drop, take_all}
use Rattle.tl_trace.proofs.Names.{length-take, length-drop, le_bytes_8, w64, from_le_bytes, to_le_bytes, slice_range}
use Rattle.std.proofs.Math.ListN.{get_or-eq_default}
use Rattle.tl_trace.proofs.ReadDigits.{range_long}

take_bytes : (xs : List ℕ) (n : ℕ) → ((k : ℕ) → get_or xs k 0 < 256) → (k : ℕ) → get_or (take n xs) k 0 < 256
take_bytes xs n bytes k = elim (cases_lt k n) [
  | inl less ↦ rw (get_or-take n xs k 0 less) (bytes k)
  | inr past ↦ let none : get_or (take n xs) k 0 ≡ 0 = get_or-eq_default (take n xs) 0 {n = k} (omega (arith, length-take n xs)) in
      omega (arith, none)
]

one_item : (xs : List ℕ) (n at next : ℕ) → next ≡ at + 1 → at < length xs → take (suc n) (drop at xs) ≡ get_or xs at 0 ∷ take n (drop next xs)
one_item xs n at next is less =
    ap (take (suc n)) (drop-cons xs at 0 less) ∙ ap (λ k. get_or xs at 0 ∷ take n (drop k xs)) (let more : suc at ≡ next = omega (arith, is) in more)

pub eight_items : (xs : List ℕ) (at : ℕ) → at + 8 ≤ length xs
    → slice_range xs at (at + 8) ≡ get_or xs at 0 ∷ get_or xs (at + 1) 0 ∷ get_or xs (at + 2) 0 ∷ get_or xs (at + 3) 0 ∷ get_or xs (at + 4) 0 ∷
    get_or xs (at + 5) 0 ∷ get_or xs (at + 6) 0 ∷ get_or xs (at + 7) 0 ∷ []
eight_items xs at room =
    let n : at + 8 - at ≡ 8 = omega arith in
    ap (λ k. take k (drop at xs)) n
    ∙ rw (
      one_item xs 7 at (at + 1) (omega arith) (omega arith),
      one_item xs 6 (at + 1) (at + 2) (omega arith) (omega arith),
      one_item xs 5 (at + 2) (at + 3) (omega arith) (omega arith),
      one_item xs 4 (at + 3) (at + 4) (omega arith) (omega arith),
      one_item xs 3 (at + 4) (at + 5) (omega arith) (omega arith),
      one_item xs 2 (at + 5) (at + 6) (omega arith) (omega arith),
      one_item xs 1 (at + 6) (at + 7) (omega arith) (omega arith),
      one_item xs 0 (at + 7) (at + 8) (omega arith) (omega arith),
    ) refl

-- a word gives its bytes back
pub word_bytes : (text : List ℕ) (at n : ℕ) → at + 8 ≤ length text → ((k : ℕ) → get_or text k 0 < 256)
    → n ≡ from_le_bytes w64 (slice_range text at (at + 8)) → to_le_bytes w64 n ≡ slice_range text at (at + 8)
word_bytes text at n room bytes is =
    le_bytes_8 (slice_range text at (at + 8)) n (range_long text at 8 room)
    (take_bytes (drop at text) (at + 8 - at) (λ k. rw (get_or-drop at text k 0) (bytes (at + k)))) is

eight : (xs ys : List ℕ) (at : ℕ) → slice_range xs at (at + 8) ≡ slice_range ys at (at + 8) → take 8 (drop at xs) ≡ take 8 (drop at ys)
eight xs ys at same =
    let n : at + 8 - at ≡ 8 = omega arith in
    ap (λ k. take k (drop at xs)) (sym n) ∙ same ∙ ap (λ k. take k (drop at ys)) n

pub one_word_more : (xs ys : List ℕ) (i : ℕ) → slice_range xs (8 * i) (8 * i + 8) ≡ slice_range ys (8 * i) (8 * i + 8)
    → take (8 * i) xs ≡ take (8 * i) ys → take (8 * (i + 1)) xs ≡ take (8 * (i + 1)) ys
one_word_more xs ys i same before =
    let more : 8 * (i + 1) ≡ 8 * i + 8 = omega arith in
    ap (λ k. take k xs) more ∙ take-add (8 * i) 8 xs ∙ ap (λ zs. zs ++ take 8 (drop (8 * i) xs)) before
    ∙ ap (λ zs. take (8 * i) ys ++ zs) (eight xs ys (8 * i) same)
    ∙ sym (take-add (8 * i) 8 ys) ∙ ap (λ k. take k ys) (sym more)

-- the last word ends both texts
pub last_word : (xs ys : List ℕ) (at i : ℕ) → at + 8 ≡ length xs → at ≤ 8 * i → length xs ≡ length ys
    → slice_range xs at (at + 8) ≡ slice_range ys at (at + 8)
    → take (8 * i) xs ≡ take (8 * i) ys → xs ≡ ys
last_word xs ys at i end past long same before =
    let front : take at xs ≡ take at ys = sym (take-take at (8 * i) xs past) ∙ ap (take at) before ∙ take-take at (8 * i) ys past in
    let rest : drop at xs ≡ drop at ys =
    sym (take_all 8 (drop at xs) (omega (arith, length-drop at xs))) ∙ eight xs ys at same
    ∙ take_all 8 (drop at ys) (omega (arith, length-drop at ys)) in
    sym (take-append-drop at xs) ∙ ap (λ zs. zs ++ drop at xs) front ∙ ap (λ zs. take at ys ++ zs) rest ∙ take-append-drop at ys
