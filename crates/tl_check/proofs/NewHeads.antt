-- The far beats that one more near beat makes due have its head.
use Rattle.tl_check.proofs.Names.{◌≡◌, ◌≤◌, ◌<◌, ◌+◌, ◌++◌, ℕ, zero, suc, Bool, true, false, cond, None, Some, List, [], ◌∷◌, length, take, drop, map}
use Rattle.tl_check.proofs.Names.{refl, sym, ap, subst, ◌∙◌, arith, append-nil, length-append, slice_get, slice_index, Rules, BeatOf, ends, rest_of}
use Rattle.tl_check.proofs.Names.{fault_after, due, part, far_beats_of, HaveHead}
use Rattle.tl_burst.specs.Messages.{Message, beat_at, layout}
use Rattle.tl_burst.specs.Reading.{message_of}
use Rattle.tl_convert.proofs.FarHeads.{KeepsHead, keeps_head}
use Rattle.tl_convert.proofs.Finished.{laid_after, homes_left, due_split}
use Rattle.tl_convert.proofs.Prefixes.{due_more}

-- each of them has it
pub head-at : {H : Type 0} {w : ℕ} (h : H) (bs : List (BeatOf H w)) (k : ℕ) (b : BeatOf H w) → HaveHead h bs → slice_get bs k ≡ Some b → b.head ≡ h
head-at h [] k b all e = cc
head-at h (x ∷ bs) zero b all e = let same : x ≡ b = cc in subst (λ y. y.head ≡ h) same all.0
head-at h (x ∷ bs) (suc k) b all e = head-at h bs k b all.1 e

-- some of them, in order, and the last ones
heads-first : {H : Type 0} {w : ℕ} (h : H) (n : ℕ) (bs : List (BeatOf H w)) → HaveHead h bs → HaveHead h (take n bs)
heads-first h zero bs all = tt
heads-first h (suc n) [] all = tt
heads-first h (suc n) (b ∷ bs) all = (all.0, heads-first h n bs all.1)

heads-last : {H : Type 0} {w : ℕ} (h : H) (xs ys : List (BeatOf H w)) → HaveHead h (xs ++ ys) → HaveHead h ys
heads-last h [] ys all = all
heads-last h (x ∷ xs) ys all = heads-last h xs ys all.1

-- if a list is cut at two places, the second part of the later cut is the end of the second part of the earlier one
later : {A : Type 0} (xs ys us zs : List A) → xs ++ ys ≡ us ++ zs → length xs ≤ length us → (between : List A) × (ys ≡ between ++ zs)
later [] ys us zs e le = (us, e)
later (x ∷ xs) ys [] zs e le = absurd (omega arith)
later (x ∷ xs) ys (u ∷ us) zs e le = let tail : xs ++ ys ≡ us ++ zs = cc in later xs ys us zs tail (omega arith)

module _ {H : Type 0} (r : Rules H) where
  -- a layout has its message's head
  laid-heads : (m : Message H) (v : ℕ) (ks : List ℕ) → HaveHead m.head (map (beat_at r m v) ks)
  laid-heads m v [] = tt
  laid-heads m v (k ∷ ks) = (refl, laid-heads m v ks)

  module _ (exact : (x y : H) → r.same x y ≡ true → x ≡ y) (w v : ℕ) (near : 0 < w) (far : 0 < v) where
    -- so have the far beats of a rest
    part-heads : (home : ℕ) (b : BeatOf H w) (rest : List (BeatOf H w)) → HaveHead b.head (part r w v home (b ∷ rest))
    part-heads home b rest = heads-first b.head (far_beats_of r b.head w v (length (b ∷ rest))) _
        (laid-heads (message_of r b.head w home (b ∷ rest)) v _)

    -- the beats after the whole messages before a beat have the beat's head
    step-heads : (x y : ℕ) (b : BeatOf H w) (rest : List (BeatOf H w)) (t : Bool) → KeepsHead rest b →
        HaveHead b.head (cond t (layout r (message_of r b.head w x (rest ++ b ∷ [])) v) [] ++ part r w v y (cond t [] (rest ++ b ∷ [])))
    step-heads x y b rest true fine = subst (λ q. HaveHead b.head q) (sym (append-nil _)) (laid-heads (message_of r b.head w x (rest ++ b ∷ [])) v _)
    step-heads x y b [] false fine = part-heads y b []
    step-heads x y b (z ∷ rest) false fine =
        let same : b.head ≡ z.head = fine in
        subst (λ h. HaveHead h (part r w v y (z ∷ (rest ++ b ∷ [])))) (sym same) (part-heads y z (rest ++ b ∷ []))

    -- the far beats that one more beat makes due, after those due before, have its head
    pub new-heads : (bs : List (BeatOf H w)) (b : BeatOf H w) (homes : List ℕ) (before news : List (BeatOf H v)) → fault_after r bs b ≡ None →
        length before ≡ length (due r w v bs homes) → due r w v (bs ++ b ∷ []) homes ≡ before ++ news → HaveHead b.head news
    new-heads bs b homes before news fine same all =
        let rest : List (BeatOf H w) = rest_of r w bs in
        let left : List ℕ = homes_left r w v [] homes bs in
        let laid : List (BeatOf H v) = laid_after r w v [] homes bs in
        let t : Bool = ends r w rest b in
        let step : List (BeatOf H v) = cond t (layout r (message_of r b.head w (slice_index left 0) (rest ++ b ∷ [])) v) [] ++
        part r w v (slice_index (cond t (drop 1 left) left) 0) (cond t [] (rest ++ b ∷ [])) in
        let parted : laid ++ step ≡ before ++ news = sym (due_more r exact w v near far bs b homes) ∙ all in
        let whole : length (due r w v bs homes) ≡ length laid + length (part r w v (slice_index left 0) rest) =
        ap length (due_split r w v [] homes bs) ∙ length-append laid (part r w v (slice_index left 0) rest) in
        let cut = later laid step before news parted (omega arith) in
        heads-last b.head cut.0 news
        (subst (λ q. HaveHead b.head q) cut.1
        (step-heads (slice_index left 0) (slice_index (cond t (drop 1 left) left) 0) b rest t (keeps_head r exact bs b fine)))
