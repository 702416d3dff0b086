-- The beats that begin a message, in a list that grows and in a layout.
use Rattle.tl_convert.proofs.Names.{◌≡◌, ◌≤◌, ◌<◌, ◌+◌, ◌-◌, ◌*◌, ◌/◌, ◌^◌, ℕ, zero, suc, Bool, true, false, cond, List, [], ◌∷◌, ◌++◌, length, take}
use Rattle.tl_convert.proofs.Names.{map, refl, sym, ap, ◌∙◌, arith, length-take, le-div, mul-le-mul_right, div-mul-le_self, le_trans, pow_pos}
use Rattle.tl_convert.proofs.Names.{length-map-range_with_len, range_with_len, Rules, BeatOf, Message, beats_of, per_beat, beat_at, layout, heads}
use Rattle.tl_convert.proofs.Names.{heads_from, left_from, far_beats_of}
use Rattle.tl_convert.proofs.Extends.{Extends, more, extends-cons}
use Rattle.tl_burst.proofs.BegunMessages.{heads-inside}

pub take-nil : {A : Type 0} (c : ℕ) → take {A = A} c [] ≡ []
take-nil zero = refl
take-nil (suc c) = refl

-- a message has a beat at each width, and a beat has a byte
pub per-beat-some : {H : Type 0} (r : Rules H) (w : ℕ) → 0 < w → (h : H) → 0 < per_beat r h w
per-beat-some r w p h = let two : 0 < 2 ^ r.size h = pow_pos (r.size h) in grind arith

pub some_beats : {H : Type 0} (r : Rules H) (w : ℕ) → 0 < w → (h : H) → 0 < beats_of r h w
some_beats r w p h =
    let two : 0 < 2 ^ r.size h = pow_pos (r.size h) in
    let q : 0 < per_beat r h w = per-beat-some r w p h in
    let u : 1 ≤ 2 ^ r.size h / per_beat r h w = le-div 1 (2 ^ r.size h) (per_beat r h w) q (grind arith) in
    at_least (r.carries h) u
  where
    at_least : (t : Bool) {n : ℕ} → 1 ≤ n → 0 < cond t n 1
    at_least true u = u
    at_least false u = omega arith

-- more near beats make no fewer far beats due
pub more-due : {H : Type 0} (r : Rules H) (w v : ℕ) → 0 < v → (h : H) (n k : ℕ) → n ≤ k → far_beats_of r h w v n ≤ far_beats_of r h w v k
more-due r w v wide h n k e =
    let x : ℕ = n * per_beat r h w in
    let y : ℕ = k * per_beat r h w in
    let q : x ≤ y = mul-le-mul_right (per_beat r h w) e in
    let p : 0 < per_beat r h v = per-beat-some r v wide h in
    let z : x / per_beat r h v * per_beat r h v ≤ x = div-mul-le_self x (per_beat r h v) in
    le-div (x / per_beat r h v) y (per_beat r h v) p (le_trans z q)

module _ {H : Type 0} (r : Rules H) (w : ℕ) where
  -- after the last beat of a message the next one opens
  heads_past : (k : ℕ) (xs ys : List (BeatOf H w)) → length xs ≡ k → heads_from r w k (xs ++ ys) ≡ heads_from r w 0 ys
  heads_past zero [] ys h = refl
  heads_past zero (x ∷ xs) ys h = absurd (omega arith)
  heads_past (suc k) [] ys h = absurd (omega arith)
  heads_past (suc k) (x ∷ xs) ys h = heads_past k xs ys (omega arith)

  -- more beats begin the same messages and perhaps more
  pub heads_grow : (k : ℕ) (xs ys : List (BeatOf H w)) → Extends (heads_from r w k xs) (heads_from r w k (xs ++ ys))
  heads_grow k [] ys = more [] (heads_from r w k ys)
  heads_grow zero (x ∷ xs) ys = extends-cons x.head (heads_grow (beats_of r x.head w - 1) xs ys)
  heads_grow (suc k) (x ∷ xs) ys = heads_grow k xs ys

  pub heads_extend : {xs ys : List (BeatOf H w)} → Extends xs ys → Extends (heads r w xs) (heads r w ys)
  heads_extend (more xs rest) = heads_grow 0 xs rest

  -- one more beat opens a message if no beat is missing, and otherwise opens none
  pub heads_open : (k : ℕ) (xs : List (BeatOf H w)) (b : BeatOf H w) → left_from r w k xs ≡ 0 →
      heads_from r w k (xs ++ b ∷ []) ≡ heads_from r w k xs ++ b.head ∷ []
  heads_open zero [] b e = refl
  heads_open (suc k) [] b e = cc
  heads_open zero (x ∷ xs) b e = ap (λ q. x.head ∷ q) (heads_open (beats_of r x.head w - 1) xs b e)
  heads_open (suc k) (x ∷ xs) b e = heads_open k xs b e

  pub heads_inside_one : (k l : ℕ) (xs : List (BeatOf H w)) (b : BeatOf H w) → left_from r w k xs ≡ suc l →
      heads_from r w k (xs ++ b ∷ []) ≡ heads_from r w k xs
  heads_inside_one zero l [] b e = cc
  heads_inside_one (suc k) l [] b e = refl
  heads_inside_one zero l (x ∷ xs) b e = ap (λ q. x.head ∷ q) (heads_inside_one (beats_of r x.head w - 1) l xs b e)
  heads_inside_one (suc k) l (x ∷ xs) b e = heads_inside_one k l xs b e

  -- and the number of beats that are then missing from the last message
  pub left_open : (k : ℕ) (xs : List (BeatOf H w)) (b : BeatOf H w) → left_from r w k xs ≡ 0 →
      left_from r w k (xs ++ b ∷ []) ≡ beats_of r b.head w - 1
  left_open zero [] b e = refl
  left_open (suc k) [] b e = cc
  left_open zero (x ∷ xs) b e = left_open (beats_of r x.head w - 1) xs b e
  left_open (suc k) (x ∷ xs) b e = left_open k xs b e

  pub left_inside_one : (k l : ℕ) (xs : List (BeatOf H w)) (b : BeatOf H w) → left_from r w k xs ≡ suc l → left_from r w k (xs ++ b ∷ []) ≡ l
  left_inside_one zero l [] b e = cc
  left_inside_one (suc k) l [] b e = omega arith
  left_inside_one zero l (x ∷ xs) b e = left_inside_one (beats_of r x.head w - 1) l xs b e
  left_inside_one (suc k) l (x ∷ xs) b e = left_inside_one k l xs b e

  -- the heads of a layout, cut after c beats, and of a layout that others follow
  module _ (some : (h : H) → 0 < beats_of r h w) where
    heads_laid : (m : Message H) (n : ℕ) (ys : List (BeatOf H w)) → n ≡ beats_of r m.head w →
        heads r w (map (beat_at r m w) (range_with_len 0 n) ++ ys) ≡ m.head ∷ heads r w ys
    heads_laid m zero ys e = let p : 0 < beats_of r m.head w = some m.head in absurd (omega arith)
    heads_laid m (suc k) ys e =
        ap (λ q. m.head ∷ q) (heads_past (beats_of r m.head w - 1) (map (beat_at r m w) (range_with_len (0 + 1) k)) ys
        (length-map-range_with_len (beat_at r m w) (0 + 1) k ∙ omega arith))

    cut_cut : (m : Message H) (n c : ℕ) → n ≡ beats_of r m.head w →
        heads r w (take c (map (beat_at r m w) (range_with_len 0 n))) ≡ take c (m.head ∷ [])
    cut_cut m zero c e = let p : 0 < beats_of r m.head w = some m.head in absurd (omega arith)
    cut_cut m (suc k) zero e = refl
    cut_cut m (suc k) (suc c) e =
        let rest : List (BeatOf H w) = map (beat_at r m w) (range_with_len (0 + 1) k) in
        let n : length rest ≡ k = length-map-range_with_len (beat_at r m w) (0 + 1) k in
        let l : length (take c rest) ≤ k = let q = length-take c rest in omega arith in
        ap (λ q. m.head ∷ q) (heads-inside r w (beats_of r m.head w - 1) (take c rest) (omega arith) ∙ sym (take-nil c))

    pub heads_cut : (m : Message H) (c : ℕ) → heads r w (take c (layout r m w)) ≡ take c (m.head ∷ [])
    heads_cut m c = cut_cut m (beats_of r m.head w) c refl

    pub heads_whole : (m : Message H) (ys : List (BeatOf H w)) → heads r w (layout r m w ++ ys) ≡ m.head ∷ heads r w ys
    heads_whole m ys = heads_laid m (beats_of r m.head w) ys refl
