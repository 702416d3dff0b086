-- The beats of a message as far as they have come, and one more.
use Rattle.tl_convert.proofs.Names.{◌≡◌, ◌≤◌, ◌<◌, ◌+◌, ◌-◌, ◌*◌, ◌/◌, ◌%◌, ◌^◌, ◌++◌, ℕ, true, false, Some, List, [], ◌∷◌, length, take, map}
use Rattle.tl_convert.proofs.Names.{slice_get, slice_index, refl, sym, ap, subst, ◌∙◌, arith, ⊎_elim, append-nil, range_with_len, option_map_or}
use Rattle.tl_convert.proofs.Names.{length_push, take-map-range_with_len, eqb_tells, mod-lt, mul-le-mul_right, Rules, BeatOf, IsWidth, lane_of}
use Rattle.tl_convert.proofs.Names.{Message, Cell, per_beat, beats_of, beat_at, layout, is_bad, cell_of, message_of, part, due_after, ends, FitsMask}
use Rattle.tl_convert.proofs.Names.{head_of, Filled, Source, Pours, far_beats, per-pos, div-up, map-parts, some_of-same, of_cells, run_cells, run-is}
use Rattle.tl_convert.proofs.Names.{run-length, run-cell, near-fill, far-fill, cells-same, whole-same}
use Rattle.std.proofs.Math.Arith.{digits_div}
use Rattle.tl_lanes.proofs.ActiveLanes.{IsActive}
use Rattle.tl_burst.proofs.LaneShift.{same-lane}
use Rattle.tl_convert.proofs.Comparisons.{seam}

heads-more : {H : Type 0} {w : ℕ} (bs : List (BeatOf H w)) (b : BeatOf H w) (h : H) → b.head ≡ h → ((g : H) → head_of bs ≡ Some g → g ≡ h) →
    (g : H) → head_of (bs ++ b ∷ []) ≡ Some g → g ≡ h
heads-more [] b h e heads g f = let q : b.head ≡ g = cc in sym q ∙ e
heads-more (a ∷ xs) b h e heads g f = heads g f

module _ {H : Type 0} (r : Rules H) (h : H) (w v x : ℕ) (ww : IsWidth w) (vw : IsWidth v) (carries : r.carries h ≡ true) where
  abbrev pub run_message : List (BeatOf H w) → Message H
  run_message bs = of_cells r h x (run_cells r h w v x ww vw carries bs)

  abbrev pub run_end : List (BeatOf H w) → ℕ
  run_end bs = length bs * per_beat r h w

  pub end-room : (bs : List (BeatOf H w)) → length bs ≤ beats_of r h w → run_end bs ≤ 2 ^ r.size h
  end-room bs le =
      let f : beats_of r h w * per_beat r h w ≡ 2 ^ r.size h = near-fill r h w v x ww vw carries in
      let m : length bs * per_beat r h w ≤ beats_of r h w * per_beat r h w = grind (arith, mul-le-mul_right) in
      omega arith

  pub end-next : (bs : List (BeatOf H w)) (b : BeatOf H w) → run_end bs + per_beat r h w ≡ run_end (bs ++ b ∷ [])
  end-next bs b = let n : length (bs ++ b ∷ []) ≡ length bs + 1 = length_push bs b in rw n (grind arith)

  -- the far beats of a part of a run
  pub part-is : (bs : List (BeatOf H w)) → ((g : H) → head_of bs ≡ Some g → g ≡ h) → length bs ≤ beats_of r h w →
      part r w v x bs ≡ map (beat_at r (run_message bs) v) (range_with_len 0 (run_end bs / per_beat r h v))
  part-is [] heads le =
      let pp : 0 < per_beat r h v = per-pos r (of_cells r h x []) v vw in
      let z : 0 * per_beat r h w ≡ 0 = omega arith in
      let q : 0 * per_beat r h w / per_beat r h v ≡ 0 = omega arith in
      ap (λ n. map (beat_at r (run_message []) v) (range_with_len 0 n)) (sym q)
  part-is (a ∷ xs) heads le =
      let pp : 0 < per_beat r h v = per-pos r (of_cells r h x []) v vw in
      let e : a.head ≡ h = heads a.head refl in
      let up : run_end (a ∷ xs) / per_beat r h v ≤ 2 ^ r.size h / per_beat r h v =
      div-up (run_end (a ∷ xs)) (2 ^ r.size h) (per_beat r h v) pp (end-room (a ∷ xs) le) in
      let n : beats_of r h v ≡ 2 ^ r.size h / per_beat r h v = far-fill r h w v x ww vw carries in
      ap (λ g. take (length (a ∷ xs) * per_beat r g w / per_beat r g v) (layout r (message_of r g w x (a ∷ xs)) v)) e ∙
      ap (λ m. take (run_end (a ∷ xs) / per_beat r h v) (layout r m v)) (run-is r h w v x ww vw carries (a ∷ xs)) ∙
      take-map-range_with_len (beat_at r (run_message (a ∷ xs)) v) 0 (beats_of r h v) (run_end (a ∷ xs) / per_beat r h v) (omega arith)

  -- and of a whole one
  pub whole-is : (bs : List (BeatOf H w)) → length bs ≡ beats_of r h w →
      layout r (message_of r h w x bs) v ≡ map (beat_at r (run_message bs) v) (range_with_len 0 (run_end bs / per_beat r h v))
  whole-is bs le =
      let f : beats_of r h w * per_beat r h w ≡ 2 ^ r.size h = near-fill r h w v x ww vw carries in
      let n : beats_of r h v ≡ 2 ^ r.size h / per_beat r h v = far-fill r h w v x ww vw carries in
      let e : run_end bs ≡ 2 ^ r.size h = ap (λ k. k * per_beat r h w) le ∙ f in
      ap (λ m. layout r m v) (run-is r h w v x ww vw carries bs) ∙
      ap (λ k. map (beat_at r (run_message bs) v) (range_with_len 0 k)) (n ∙ ap (λ k. k / per_beat r h v) (sym e))

  module _ (bs : List (BeatOf H w)) (b : BeatOf H w) (shorter : length bs < beats_of r h w) (head : b.head ≡ h) (fits : FitsMask r b)
      (home : r.masked ≡ true → x ≡ r.lane_address h 0) where
    -- the next near beat carries the next bytes of the run's message
    pub run-source : Source r (run_message (bs ++ b ∷ [])) x (run_end bs) b
    run-source =
        let n : length (bs ++ b ∷ []) ≡ length bs + 1 = length_push bs b in
        let room : run_end (bs ++ b ∷ []) ≤ 2 ^ r.size h = end-room (bs ++ b ∷ []) (omega arith) in
        let next : run_end bs + per_beat r h w ≡ run_end (bs ++ b ∷ []) = end-next bs b in
        record {
          home_is = refl;
          carries = carries;
          cells = run-length r h w v x ww vw carries (bs ++ b ∷ []);
          room = omega arith;
          brings = record {
            head = head;
            cells = λ i lo hi.
                let k : i - run_end bs < per_beat r h w = omega arith in
                let s : run_end bs + (i - run_end bs) ≡ i = omega arith in
                let q : i / per_beat r h w ≡ length bs = ap (λ y. y / per_beat r h w) (sym s) ∙ digits_div (length bs) k in
                run-cell r h w v x ww vw carries (bs ++ b ∷ []) i (omega arith) ∙
                ap (λ y. Some (cell_of r h w (lane_of x i w) (slice_get (bs ++ b ∷ []) y))) q ∙
                ap (λ o. Some (cell_of r h w (lane_of x i w) o)) (seam bs b);
            bits = λ masked full i lo hi.
                let pp : 0 < per_beat r h w = per-pos r (of_cells r h x []) w ww in
                let inside : i < 2 ^ r.size h = omega arith in
                let below : i % per_beat r h w < per_beat r h w = mod-lt i pp in
                let lane : lane_of x (i % per_beat r h w) w ≡ lane_of x i w = same-lane x i (r.size h) w ww inside in
                let A : ℕ → Type 0 = λ y. IsActive y (r.size h) w (lane_of x i w) in
                let act : IsActive (r.lane_address h 0) (r.size h) w (lane_of x i w) = subst A (home masked) (i % per_beat r h w, below, lane) in
                let B : H → Type 0 = λ g. IsActive (r.lane_address g 0) (r.size g) w (lane_of x i w) in
                (fits masked).full (ap (λ g. r.partial g) head ∙ full) (lane_of x i w) (subst B (sym head) act);
          };
        }

    -- the filled part stays the same in the longer run's message
    pub filled-longer : (j : ℕ) (p : BeatOf H v) → Filled r (run_message bs) v j (run_end bs) p →
        Filled r (run_message (bs ++ b ∷ [])) v j (run_end bs) p
    filled-longer j p f =
        let room : run_end bs ≤ 2 ^ r.size h = end-room bs (omega arith) in
        let same : (i : ℕ) → i < run_end bs → slice_get (run_cells r h w v x ww vw carries bs) i ≡ slice_get
        (run_cells r h w v x ww vw carries (bs ++ b ∷ [])) i =
        λ i lt. cells-same r h w v x ww vw carries bs (b ∷ []) (run_end bs) refl room i lt in
        record {
          head = f.head;
          size = f.size;
          bytes = λ i c lo hi e. f.bytes i c lo hi (same i hi ∙ e);
          blank = f.blank;
          bits = λ i c lo hi e. f.bits i c lo hi (same i hi ∙ e);
          clear = f.clear;
          small = f.small;
          corrupt = f.corrupt ∙ some_of-same (is_bad r (run_message bs)) (is_bad r (run_message (bs ++ b ∷ []))) (j * per_beat r h v)
              (run_end bs - j * per_beat r h v)
              (λ i lo hi. ap (λ o. option_map_or (λ (y : Cell). y.bad) o false) (same i (omega arith)));
        }

    -- the far beats that the near beat gives follow those that were due
    pub run-due : (homes : List ℕ) → slice_index homes 0 ≡ x → ((g : H) → head_of bs ≡ Some g → g ≡ h) →
        (new : BeatOf H v) (out : List (BeatOf H v)) →
        Pours r (run_message (bs ++ b ∷ [])) v (run_end bs) (run_end bs + per_beat r h w) new out →
        due_after r w v bs homes (b ∷ []) ≡ part r w v x bs ++ out
    run-due homes eh heads new out pours =
        let n : length (bs ++ b ∷ []) ≡ length bs + 1 = length_push bs b in
        let next : run_end bs + per_beat r h w ≡ run_end (bs ++ b ∷ []) = end-next bs b in
        let pp : 0 < per_beat r h v = per-pos r (of_cells r h x []) v vw in
        let up : run_end bs / per_beat r h v ≤ run_end (bs ++ b ∷ []) / per_beat r h v =
        div-up (run_end bs) (run_end (bs ++ b ∷ [])) (per_beat r h v) pp (omega arith) in
        let sum : run_end bs / per_beat r h v + (run_end (bs ++ b ∷ []) / per_beat r h v - run_end bs / per_beat r h v) ≡ run_end (bs ++ b ∷ []) /
        per_beat r h v = omega arith in
        let front : part r w v x bs ≡ map (beat_at r (run_message (bs ++ b ∷ [])) v) (range_with_len 0 (run_end bs / per_beat r h v)) =
        part-is bs heads (omega arith) ∙ whole-same r h w v x ww vw carries bs (b ∷ []) (run_end bs) refl (end-room bs (omega arith)) in
        let back : out ≡ far_beats r (run_message (bs ++ b ∷ [])) v (run_end bs) (run_end (bs ++ b ∷ [])) =
        pours.beats ∙ ap (λ e. far_beats r (run_message (bs ++ b ∷ [])) v (run_end bs) e) next in
        let all : part r w v x bs ++ out ≡ map (beat_at r (run_message (bs ++ b ∷ [])) v)
        (range_with_len 0 (run_end (bs ++ b ∷ []) / per_beat r h v)) =
        ap (λ xs. xs ++ out) front ∙ ap (λ ys. map (beat_at r (run_message (bs ++ b ∷ [])) v) (range_with_len 0 (run_end bs / per_beat r h v)) ++ ys)
        back ∙
        sym (map-parts (beat_at r (run_message (bs ++ b ∷ [])) v) 0 (run_end bs / per_beat r h v)
        (run_end (bs ++ b ∷ []) / per_beat r h v - run_end bs / per_beat r h v) (run_end bs / per_beat r h v) (omega arith)) ∙
        ap (λ k. map (beat_at r (run_message (bs ++ b ∷ [])) v) (range_with_len 0 k)) sum in
        let count : beats_of r b.head w ≡ beats_of r h w = ap (λ g. beats_of r g w) head in
        ⊎_elim
        (λ s.
        let e : length bs + 1 ≡ beats_of r b.head w = s.1 in
        let t : ends r w bs b ≡ true = s.0 in
        rw t (append-nil (layout r (message_of r b.head w (slice_index homes 0) (bs ++ b ∷ [])) v) ∙
        ap (λ g. layout r (message_of r g w (slice_index homes 0) (bs ++ b ∷ [])) v) head ∙
        ap (λ y. layout r (message_of r h w y (bs ++ b ∷ [])) v) eh ∙ whole-is (bs ++ b ∷ []) (omega arith) ∙ sym all))
        (λ s.
        let t : ends r w bs b ≡ false = s.0 in
        rw t (ap (λ y. part r w v y (bs ++ b ∷ [])) eh ∙
        part-is (bs ++ b ∷ []) (λ g e. heads-more bs b h head heads g e) (omega arith) ∙ sym all))
        (eqb_tells (length bs + 1) (beats_of r b.head w))
