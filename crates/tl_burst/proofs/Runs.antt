-- The message that a run of beats carries, read back, and its cells.
use Rattle.tl_burst.proofs.Names.{◌≡◌, ◌≤◌, ◌<◌, ◌+◌, ◌*◌, ◌/◌, ◌%◌, ◌^◌, ◌&&◌, ◌||◌, ◌++◌, ℕ, zero, suc, Bool, true, false, cond, Some, List, []}
use Rattle.tl_burst.proofs.Names.{◌∷◌, length, map, slice_get, refl, sym, ap, ◌∙◌, arith, ⊎_elim, range_with_len, option_map_or, slice_get-get_or}
use Rattle.tl_burst.proofs.Names.{mul-le-mul_right, div-mul-le_self, Rules, BeatOf, IsWidth, lane_of, Message, Cell, per_beat, beats_of, lane_value}
use Rattle.tl_burst.proofs.Names.{lane_on, beat_at, some_of, is_bad, mask_of, cell_of, message_of}
use Rattle.tl_msg.proofs.Beats.{same_beat}
use Rattle.std.proofs.lemmas.List.FromFn.{get_or-map-range_with_len, length-map-range_with_len}
use Rattle.tl_burst.proofs.Places.{per-pos}
use Rattle.tl_burst.proofs.OnLane.{on_lane}
use Rattle.tl_burst.proofs.Numbers.{slice_get-left, per-power, powers-divide}
use Rattle.std.proofs.lemmas.Nat.{div-add-mod'}

-- maps that agree on a range
pub map-same : {A : Type 0} (f g : ℕ → A) (a n : ℕ) → ((x : ℕ) → a ≤ x → x < a + n → f x ≡ g x) → map f (range_with_len a n) ≡
    map g (range_with_len a n)
map-same f g a zero h = refl
map-same f g a (suc n) h =
    ap (λ x. x ∷ map f (range_with_len (a + 1) n)) (h a (omega arith) (omega arith)) ∙
    ap (λ xs. g a ∷ xs) (map-same f g (a + 1) n (λ x lo hi. h x (omega arith) (omega arith)))

-- a range in two parts
pub map-parts : {A : Type 0} (f : ℕ → A) (a n k b : ℕ) → b ≡ a + n → map f (range_with_len a (n + k)) ≡ map f (range_with_len a n) ++
    map f (range_with_len b k)
map-parts f a zero k b e =
    let s : b ≡ a = omega arith in
    let t : zero + k ≡ k = omega arith in
    ap (λ x. map f (range_with_len a x)) t ∙ ap (λ x. map f (range_with_len x k)) (sym s)
map-parts f a (suc n) k b e =
    let t : suc n + k ≡ suc (n + k) = omega arith in
    ap (λ x. map f (range_with_len a x)) t ∙ ap (λ xs. f a ∷ xs) (map-parts f (a + 1) n k b (omega arith))

pub mask_of-same : (f g : ℕ → Bool) (n : ℕ) → ((l : ℕ) → f l ≡ g l) → mask_of f n ≡ mask_of g n
mask_of-same f g zero h = refl
mask_of-same f g (suc n) h =
    ap (λ x. x + cond (f n) (2 ^ n) 0) (mask_of-same f g n h) ∙ ap (λ b. mask_of g n + cond b (2 ^ n) 0) (h n)

pub some_of-same : (f g : ℕ → Bool) (a n : ℕ) → ((x : ℕ) → a ≤ x → x < a + n → f x ≡ g x) → some_of f a n ≡ some_of g a n
some_of-same f g a zero h = refl
some_of-same f g a (suc n) h =
    ap (λ b. b || f (a + n)) (some_of-same f g a n (λ x lo hi. h x lo (omega arith))) ∙
    ap (λ b. some_of g a n || b) (h (a + n) (omega arith) (omega arith))

pub some_of-none : (f : ℕ → Bool) (a n : ℕ) → ((x : ℕ) → f x ≡ false) → some_of f a n ≡ false
some_of-none f a zero h = refl
some_of-none f a (suc n) h = rw (some_of-none f a n h) (h (a + n))

module _ {H : Type 0} (r : Rules H) where
  abbrev pub of_cells : H → ℕ → List Cell → Message H
  of_cells h x cs = record { head = h; home = x; cells = cs }

  -- a far beat whose cells are the same
  pub beat_at-same : (h : H) (x : ℕ) (cs cs' : List Cell) (v j : ℕ) → IsWidth v → j * per_beat r h v + per_beat r h v ≤ 2 ^ r.size h →
      ((i : ℕ) → j * per_beat r h v ≤ i → i < j * per_beat r h v + per_beat r h v → slice_get cs i ≡ slice_get cs' i) →
      beat_at r (of_cells h x cs) v j ≡ beat_at r (of_cells h x cs') v j
  beat_at-same h x cs cs' v j vw room same =
      let on : (l : ℕ) → lane_on r (of_cells h x cs) v j l ≡ lane_on r (of_cells h x cs') v j l = λ l. ⊎_elim
      (λ (i, lo, hi, there, e). rw e (rw (same i lo hi) refl))
      (λ (never, e). rw e refl)
      (on_lane r (of_cells h x cs) v vw j room l) in
      let value : (l : ℕ) → lane_value r (of_cells h x cs) v j l ≡ lane_value r (of_cells h x cs') v j l = λ l. ⊎_elim
      (λ (i, lo, hi, there, e). rw e (rw (same i lo hi) refl))
      (λ (never, e). rw e refl)
      (on_lane r (of_cells h x cs) v vw j room l) in
      same_beat (beat_at r (of_cells h x cs) v j) (beat_at r (of_cells h x cs') v j) refl
      (mask_of-same (λ l. r.masked && lane_on r (of_cells h x cs) v j l) (λ l. r.masked && lane_on r (of_cells h x cs') v j l) v
      (λ l. ap (λ b. r.masked && b) (on l)))
      (map-same (lane_value r (of_cells h x cs) v j) (lane_value r (of_cells h x cs') v j) 0 v (λ l lo hi. value l))
      (some_of-same (is_bad r (of_cells h x cs)) (is_bad r (of_cells h x cs')) (j * per_beat r h v) (per_beat r h v)
      (λ i lo hi. ap (λ c. option_map_or (λ y. y.bad) c false) (same i lo hi)))

  module _ (h : H) (w v x : ℕ) (ww : IsWidth w) (vw : IsWidth v) (carries : r.carries h ≡ true) where
    -- the cells of a run of beats
    abbrev pub cell_at : List (BeatOf H w) → ℕ → Cell
    cell_at bs i = cell_of r h w (lane_of x i w) (slice_get bs (i / per_beat r h w))

    abbrev pub run_cells : List (BeatOf H w) → List Cell
    run_cells bs = map (cell_at bs) (range_with_len 0 (2 ^ r.size h))

    pub run-is : (bs : List (BeatOf H w)) → message_of r h w x bs ≡ of_cells h x (run_cells bs)
    run-is bs = rw carries refl

    pub run-length : (bs : List (BeatOf H w)) → length (run_cells bs) ≡ 2 ^ r.size h
    run-length bs = length-map-range_with_len (cell_at bs) 0 (2 ^ r.size h)

    pub run-cell : (bs : List (BeatOf H w)) (i : ℕ) → i < 2 ^ r.size h → slice_get (run_cells bs) i ≡ Some (cell_at bs i)
    run-cell bs i lt =
        let d : Cell = record { byte = 0; on = true; bad = false } in
        slice_get-get_or (run_cells bs) i d (let n : length (run_cells bs) ≡ 2 ^ r.size h = run-length bs in omega arith) ∙
        ap Some (get_or-map-range_with_len (cell_at bs) 0 (2 ^ r.size h) i i d lt (omega arith))

    -- the near beats fill the message
    pub near-fill : beats_of r h w * per_beat r h w ≡ 2 ^ r.size h
    near-fill =
        let p = per-power (r.size h) w ww in
        let n : beats_of r h w ≡ 2 ^ r.size h / per_beat r h w = rw carries refl in
        ap (λ k. k * per_beat r h w) n ∙ sym (powers-divide (r.size h) p.0 (2 ^ r.size h) (per_beat r h w) refl p.1 (omega arith))

    pub far-fill : beats_of r h v ≡ 2 ^ r.size h / per_beat r h v
    far-fill = rw carries refl

    -- the cells of the beats that are there are the same in a longer run
    pub cells-same : (bs more : List (BeatOf H w)) (e : ℕ) → e ≡ length bs * per_beat r h w → e ≤ 2 ^ r.size h → (i : ℕ) → i < e →
        slice_get (run_cells bs) i ≡ slice_get (run_cells (bs ++ more)) i
    cells-same bs more e ee room i lt =
        let inside : i < 2 ^ r.size h = omega arith in
        let q : i / per_beat r h w * per_beat r h w + i % per_beat r h w ≡ i = div-add-mod' i (per_beat r h w) in
        let before : i / per_beat r h w < length bs = grind (arith, mul-le-mul_right) in
        run-cell bs i inside ∙ ap (λ o. Some (cell_of r h w (lane_of x i w) o)) (slice_get-left bs more (i / per_beat r h w) before) ∙
        sym (run-cell (bs ++ more) i inside)

    -- the beats that are whole at byte e are the same in a longer run
    pub whole-same : (bs more : List (BeatOf H w)) (e : ℕ) → e ≡ length bs * per_beat r h w → e ≤ 2 ^ r.size h →
        map (beat_at r (of_cells h x (run_cells bs)) v) (range_with_len 0 (e / per_beat r h v)) ≡
        map (beat_at r (of_cells h x (run_cells (bs ++ more))) v) (range_with_len 0 (e / per_beat r h v))
    whole-same bs more e ee room =
        let pp : 0 < per_beat r h w = per-pos r (of_cells h x []) w ww in
        map-same _ _ 0 (e / per_beat r h v) (λ j lo hi.
        let fit : (j + 1) * per_beat r h v ≤ e / per_beat r h v * per_beat r h v = grind (arith, mul-le-mul_right) in
        let le : e / per_beat r h v * per_beat r h v ≤ e = div-mul-le_self e (per_beat r h v) in
        let top : j * per_beat r h v + per_beat r h v ≤ e = grind arith in
        beat_at-same h x (run_cells bs) (run_cells (bs ++ more)) v j vw (omega arith) (λ i il ih. cells-same bs more e ee room i (omega arith)))
