-- The far beat of a message without data.
use Rattle.tl_convert.proofs.Names.{◌≡◌, ◌≤◌, ◌+◌, ◌*◌, ◌^◌, ◌&&◌, ℕ, zero, suc, true, false, [], ◌∷◌, length, get_or, map, replicate, refl, sym, ap}
use Rattle.tl_convert.proofs.Names.{◌∙◌, arith, ⊎_elim, range_with_len, fill_by_all, Rules, BeatOf, IsWidth, per_beat, beats_of, lane_value, lane_on}
use Rattle.tl_convert.proofs.Names.{mask_at, beat_at, layout, is_bad, of_head, mask_of, is_active, active_mask, mask_of-same, some_of-none, zeros}
use Rattle.tl_convert.proofs.Names.{cases_Bool}
use Rattle.tl_msg.proofs.Beats.{same_beat}
use Rattle.tl_lanes.proofs.ActiveLanes.{is_active-from_lane, is_active-false}
use Rattle.tl_burst.proofs.OnLane.{on_lane}

no-mask : (n : ℕ) → mask_of (λ l. false) n ≡ 0
no-mask zero = refl
no-mask (suc n) = omega (arith, no-mask n)

module _ {H : Type 0} (r : Rules H) (h : H) (v x : ℕ) (vw : IsWidth v) (empty : r.carries h ≡ false) (b : BeatOf H v)
    (head : b.head ≡ h) (lanes : b.lanes ≡ replicate v 0) (size : length b.lanes ≡ v) (corrupt : b.corrupt ≡ false)
    (on : r.masked ≡ true → b.mask ≡ active_mask x (r.size h) v) (off : r.masked ≡ false → b.mask ≡ 0) where
  room : 0 * per_beat r h v + per_beat r h v ≤ 2 ^ r.size h
  room = omega arith

  value : (l : ℕ) → lane_value r (of_head h x) v 0 l ≡ 0
  value l = ⊎_elim (λ (i, lo, hi, there, e). rw e refl) (λ (never, e). rw e refl) (on_lane r (of_head h x) v vw 0 room l)

  -- the lanes of its bytes are the active ones
  lane-is : (l : ℕ) → lane_on r (of_head h x) v 0 l ≡ is_active x (r.size h) v l
  lane-is l = ⊎_elim
      (λ (i, lo, hi, there, e).
      let is_on : lane_on r (of_head h x) v 0 l ≡ true = rw e (rw empty refl) in
      is_on ∙ sym (is_active-from_lane x (r.size h) v l i (omega arith) there))
      (λ (never, e).
      let is_off : lane_on r (of_head h x) v 0 l ≡ false = rw e refl in
      is_off ∙ sym (is_active-false x (r.size h) v l (λ i lt. never i (omega arith) (omega arith))))
      (on_lane r (of_head h x) v vw 0 room l)

  mask-is : b.mask ≡ mask_at r (of_head h x) v 0
  mask-is = ⊎_elim
      (λ masked. on masked ∙ mask_of-same (is_active x (r.size h) v) (λ l. r.masked && lane_on r (of_head h x) v 0 l) v
      (λ l. sym (lane-is l) ∙ ap (λ y. y && lane_on r (of_head h x) v 0 l) (sym masked)))
      (λ plain. off plain ∙ sym (mask_of-same (λ l. r.masked && lane_on r (of_head h x) v 0 l) (λ l. false) v
      (λ l. ap (λ y. y && lane_on r (of_head h x) v 0 l) plain) ∙ no-mask v))
      (cases_Bool r.masked)

  pub single-is : b ∷ [] ≡ layout r (of_head h x) v
  single-is =
      let n : beats_of r h v ≡ 1 = rw empty refl in
      let same : b ≡ beat_at r (of_head h x) v 0 =
      same_beat b (beat_at r (of_head h x) v 0) head mask-is
      (fill_by_all (lane_value r (of_head h x) v 0) b.lanes v 0 size (λ l lt. ap (λ xs. get_or {A = ℕ} xs l 0) lanes ∙ zeros v l ∙ sym (value l)))
      (corrupt ∙ sym (some_of-none (is_bad r (of_head h x)) (0 * per_beat r h v) (per_beat r h v) (λ i. refl))) in
      ap (λ y. y ∷ []) same ∙ ap (λ k. map (beat_at r (of_head h x) v) (range_with_len 0 k)) (sym n)
