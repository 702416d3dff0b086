-- The tests of a tracker as facts about lanes.
use Rattle.tl_burst.proofs.Names.{◌≡◌, ℕ, Bool, true, false, Option, None, Some, List, [], ◌∷◌, bit_at, Rules, BeatOf, IsActive}

-- the head of the burst that a rest has begun
abbrev pub head_of : {H : Type 0} {W : ℕ} → List (BeatOf H W) → Option H
head_of [] = None
head_of (b ∷ bs) = Some b.head

-- a mask has no bit outside the active lanes, and has all of them unless bytes may be left out
pub record MaskFits (address size w : ℕ) (partial : Bool) (mask : ℕ) : Type 0 where
  pub inside : (l : ℕ) → bit_at mask l ≡ 1 → IsActive address size w l
  pub full : partial ≡ false → (l : ℕ) → IsActive address size w l → bit_at mask l ≡ 1

abbrev pub FitsMask : {H : Type 0} {W : ℕ} → Rules H → BeatOf H W → Type 0
FitsMask {W = W} r b = r.masked ≡ true → MaskFits (r.lane_address b.head 0) (r.size b.head) W (r.partial b.head) b.mask

-- a beat is accepted while this burst is open
pub record Accepts {H : Type 0} {W : ℕ} (r : Rules H) (burst : Option H) (b : BeatOf H W) : Type 0 where
  pub held : (h : H) → burst ≡ Some h → h ≡ b.head
  pub lawful : r.fault b.head ≡ None
  pub mask : FitsMask r b
  pub clean : burst ≡ None → r.corrupts ≡ true → r.carries b.head ≡ false → b.corrupt ≡ false
