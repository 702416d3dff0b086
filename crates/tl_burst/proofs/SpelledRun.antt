-- A beat that carries a part of a lawful message: its mask fits, and a mask that fits is the message's.
use Rattle.tl_burst.proofs.Names.{◌≡◌, ◌≤◌, ◌<◌, ◌+◌, ◌-◌, ◌*◌, ◌/◌, ◌%◌, ◌^◌, ◌≢◌, ◌==◌, ◌&&◌, ℕ, zero, suc, Bool, true, false, cond, not, Some}
use Rattle.tl_burst.proofs.Names.{List, [], ◌∷◌, length, get_or, slice_get, slice_index, refl, sym, ap, subst, ◌∙◌, arith, ⊎_elim, All, option_map_or}
use Rattle.tl_burst.proofs.Names.{bit_at, eqb_tells, leb_tells, slice_get-get_or, get_or_from_slice_get, slice_get_within, All-get_or, true≢false}
use Rattle.tl_burst.proofs.Names.{mod-lt, mul-le-mul_right, digits_div, digits_mod, Rules, BeatOf, IsWidth, lane_of, bytes_per_beat}
use Rattle.tl_burst.proofs.Names.{beats_per_message, IsActive, lane-lt, Message, Cell, IsLawful, byte_on, per_beat, beats_of, lane_on, mask_at}
use Rattle.tl_burst.proofs.Names.{SpellsBeat}
use Rattle.std.proofs.lemmas.Nat.Bits.{bit_at-lt, bit_at_above, same_from_bits}
use Rattle.tl_burst.proofs.Fits.{MaskFits, FitsMask}
use Rattle.tl_burst.proofs.Places.{per-pos, byte_on-some}
use Rattle.tl_burst.proofs.OnLane.{on_lane}
use Rattle.tl_lanes.proofs.Masks.{mask_of-lt, bit_at-mask_of}
use Rattle.tl_burst.proofs.Numbers.{per-power, powers-divide}
use Rattle.tl_burst.proofs.LaneShift.{same-lane}

-- a beat that fits position j of a message with this head and home
pub record Fitting {H : Type 0} (r : Rules H) (h : H) (x w j : ℕ) (b : BeatOf H w) : Type 0 where
  pub head : b.head ≡ h
  pub lanes : r.carries h ≡ true → (i : ℕ) → i < 2 ^ r.size h → i / per_beat r h w ≡ j → lane_of x i w < length b.lanes
  pub bytes : r.carries h ≡ true → (i : ℕ) → i < 2 ^ r.size h → i / per_beat r h w ≡ j → slice_index b.lanes (lane_of x i w) < 256
  pub fits : FitsMask r b
  pub clean : r.corrupts ≡ true → r.carries h ≡ false → b.corrupt ≡ false

room-by : (c : Bool) (size w j : ℕ) → IsWidth w → j < beats_per_message c size w → j * bytes_per_beat size w + bytes_per_beat size w ≤ 2 ^ size
room-by false size w j ww lt = let z : j ≡ 0 = omega arith in rw z (omega arith)
room-by true size w j ww lt =
    let p = per-power size w ww in
    let f : 2 ^ size / bytes_per_beat size w * bytes_per_beat size w ≡ 2 ^ size =
    sym (powers-divide size p.0 (2 ^ size) (bytes_per_beat size w) refl p.1 (omega arith)) in
    let one : (j + 1) * bytes_per_beat size w ≤ 2 ^ size / bytes_per_beat size w * bytes_per_beat size w = grind (arith, mul-le-mul_right) in
    let two : (j + 1) * bytes_per_beat size w ≡ j * bytes_per_beat size w + bytes_per_beat size w = grind arith in
    omega arith

-- a beat's bytes are bytes of its message
pub room-of : {H : Type 0} (r : Rules H) (h : H) (w j : ℕ) → IsWidth w → j < beats_of r h w → j * per_beat r h w + per_beat r h w ≤ 2 ^ r.size h
room-of r h w j ww lt = room-by (r.carries h) (r.size h) w j ww lt

-- an active lane is that of a byte of each beat
active-byte : (a size w j l : ℕ) → IsWidth w → j * bytes_per_beat size w + bytes_per_beat size w ≤ 2 ^ size → IsActive a size w l →
    (i : ℕ) × (j * bytes_per_beat size w ≤ i) × (i < j * bytes_per_beat size w + bytes_per_beat size w) × (lane_of a i w ≡ l)
active-byte a size w j l ww room (k, below, e) =
    let inside : j * bytes_per_beat size w + k < 2 ^ size = omega arith in
    let d : (j * bytes_per_beat size w + k) % bytes_per_beat size w ≡ k = digits_mod j below in (
      j * bytes_per_beat size w + k,
      omega arith,
      omega arith,
      sym (same-lane a (j * bytes_per_beat size w + k) size w ww inside) ∙ ap (λ y. lane_of a y w) d ∙ e,
    )

byte-active : (a size w i l : ℕ) → IsWidth w → 0 < bytes_per_beat size w → i < 2 ^ size → lane_of a i w ≡ l → IsActive a size w l
byte-active a size w i l ww pos lt e = (i % bytes_per_beat size w, mod-lt i pos, same-lane a i size w ww lt ∙ e)

not-one : (n l : ℕ) → (bit_at n l ≡ 1 → ⊥) → bit_at n l ≡ 0
not-one n l never =
    let two : bit_at n l < 2 = bit_at-lt n l in
    ⊎_elim (λ s. absurd (never s.1)) (λ s. let ne : bit_at n l ≢ 1 = s.1 in omega arith) (eqb_tells (bit_at n l) 1)

abbrev digit : Bool → ℕ
digit b = cond b 1 0

one-of : (masked on : Bool) → digit (masked && on) ≡ 1 → on ≡ true
one-of true true e = refl
one-of true false e = absurd (omega arith)
one-of false on e = absurd (omega arith)

both-true : (masked on : Bool) → masked ≡ true → on ≡ true → digit (masked && on) ≡ 1
both-true masked on e f = rw (e, f) refl

both-false : (masked on : Bool) → on ≡ false → digit (masked && on) ≡ 0
both-false true on e = rw e refl
both-false false on e = refl

bit-digit : (masked partial : Bool) (x : ℕ) → x < 2 → (partial ≡ false → x ≡ 1) → masked ≡ true → x ≡ digit (masked && cond partial (x == 1) true)
bit-digit false partial x lt all_of e = absurd (cc)
bit-digit true false x lt all_of e = all_of refl
bit-digit true true zero lt all_of e = refl
bit-digit true true (suc zero) lt all_of e = refl
bit-digit true true (suc (suc x)) lt all_of e = absurd (omega arith)

-- a byte of a full message is on
on-of : (cs : List Cell) (c : Bool) (n i : ℕ) → length cs ≡ cond c n 0 → i < n → All (λ y. y.on ≡ true) cs →
    option_map_or (λ y. y.on) (slice_get cs i) (not c) ≡ true
on-of cs true n i e lt all =
    let d : Cell = record { byte = 0; on = true; bad = false } in
    rw (slice_get-get_or cs i d (omega arith)) (All-get_or (λ y. y.on ≡ true) cs i d (omega arith) all)
on-of [] false n i e lt all = refl
on-of (y ∷ ys) false n i e lt all = absurd (omega arith)

module _ {H : Type 0} (r : Rules H) (m : Message H) (w j : ℕ) (ww : IsWidth w)
    (room : j * per_beat r m.head w + per_beat r m.head w ≤ 2 ^ r.size m.head) (b : BeatOf H w) (masked : r.masked ≡ true) where
  -- a fitting mask is the one of the message whose bytes it enables
  pub mask-is : MaskFits m.home (r.size m.head) w (r.partial m.head) b.mask →
      ((i l : ℕ) → j * per_beat r m.head w ≤ i → i < j * per_beat r m.head w + per_beat r m.head w → lane_of m.home i w ≡ l →
      byte_on r m w j l ≡ Some i →
      lane_on r m w j l ≡ cond (r.partial m.head) (bit_at b.mask l == 1) true) →
      b.mask ≡ mask_at r m w j
  mask-is fits on =
      let below : mask_at r m w j < 2 ^ w = mask_of-lt (λ l. r.masked && lane_on r m w j l) w in
      same_from_bits b.mask (mask_at r m w j) (λ l. ⊎_elim
      (λ s.
      let out : w ≤ l = s.1 in
      not-one b.mask l (λ one.
      let act : IsActive m.home (r.size m.head) w l = fits.inside l one in
      let lt : lane_of m.home act.0 w < w = lane-lt m.home act.0 w ww in
      let e : lane_of m.home act.0 w ≡ l = act.2 in
      omega arith) ∙
      sym (bit_at_above (mask_at r m w j) w l below s.1))
      (λ s. ⊎_elim
      (λ (i, lo, hi, there, e).
      bit-digit r.masked (r.partial m.head) (bit_at b.mask l) (bit_at-lt b.mask l)
      (λ f. fits.full f l (byte-active m.home (r.size m.head) w i l ww (per-pos r m w ww) (omega arith) there)) masked ∙
      ap (λ y. digit (r.masked && y)) (sym (on i l lo hi there e)))
      (λ (never, e).
      let off : lane_on r m w j l ≡ false = rw e refl in
      not-one b.mask l (λ one.
      let q = active-byte m.home (r.size m.head) w j l ww room (fits.inside l one) in
      never q.0 q.1 q.2 q.3) ∙
      sym (both-false r.masked (lane_on r m w j l) off))
      (on_lane r m w ww j room l) ∙ sym (bit_at-mask_of (λ x. r.masked && lane_on r m w j x) w l s.1))
      (leb_tells w l))

  -- and the mask of a lawful message fits
  pub mask-fits : IsLawful r m → b.mask ≡ mask_at r m w j → MaskFits m.home (r.size m.head) w (r.partial m.head) b.mask
  mask-fits lawful is =
      let below : mask_at r m w j < 2 ^ w = mask_of-lt (λ l. r.masked && lane_on r m w j l) w in
      record {
        inside = λ l one.
            let set : bit_at (mask_at r m w j) l ≡ 1 = ap (λ n. bit_at n l) (sym is) ∙ one in
            ⊎_elim
            (λ s. let z : bit_at (mask_at r m w j) l ≡ 0 = bit_at_above (mask_at r m w j) w l below s.1 in absurd (omega arith))
            (λ s.
            let bit : bit_at (mask_at r m w j) l ≡ digit (r.masked && lane_on r m w j l) =
            bit_at-mask_of (λ x. r.masked && lane_on r m w j x) w l s.1 in
            let on : lane_on r m w j l ≡ true = one-of r.masked (lane_on r m w j l) (sym bit ∙ set) in
            ⊎_elim
            (λ (i, lo, hi, there, e). byte-active m.home (r.size m.head) w i l ww (per-pos r m w ww) (omega arith) there)
            (λ (never, e).
            let off : lane_on r m w j l ≡ false = rw e refl in
            absurd (true≢false (sym on ∙ off)))
            (on_lane r m w ww j room l))
            (leb_tells w l);
        full = λ f l act.
            let q = active-byte m.home (r.size m.head) w j l ww room act in
            let lt : l < w = subst (λ (y : ℕ). y < w) q.3 (lane-lt m.home q.0 w ww) in
            let lo : j * per_beat r m.head w ≤ q.0 = q.1 in
            let hi : q.0 < j * per_beat r m.head w + per_beat r m.head w = q.2 in
            let k : q.0 - j * per_beat r m.head w < per_beat r m.head w = omega arith in
            let s : j * per_beat r m.head w + (q.0 - j * per_beat r m.head w) ≡ q.0 = omega arith in
            let place : q.0 / per_beat r m.head w ≡ j = ap (λ y. y / per_beat r m.head w) (sym s) ∙ digits_div j k in
            let e : byte_on r m w j l ≡ Some q.0 = byte_on-some r m w ww q.0 j l (omega arith) place q.3 in
            let on : lane_on r m w j l ≡ true =
            rw e (on-of m.cells (r.carries m.head) (2 ^ r.size m.head) q.0 lawful.cells (omega arith) (lawful.on f)) in
            ap (λ n. bit_at n l) is ∙ bit_at-mask_of (λ x. r.masked && lane_on r m w j x) w l lt ∙ both-true r.masked (lane_on r m w j l) masked on;
      }

module _ {H : Type 0} (r : Rules H) (w : ℕ) (ww : IsWidth w)
    (masked_address : r.masked ≡ true → (h : H) (x y : ℕ) → r.lane_address h x ≡ r.lane_address h y)
    (partial_carries : (h : H) → r.partial h ≡ true → r.carries h ≡ true) where
  -- a beat of a lawful message fits its position
  pub fitting-of : (m : Message H) (j : ℕ) (b : BeatOf H w) → IsLawful r m → j < beats_of r m.head w → SpellsBeat r m w j b →
      Fitting r m.head m.home w j b
  fitting-of m j b lawful lt spells = record {
    head = spells.head;
    lanes = λ carries i inside place.
        let n : length m.cells ≡ 2 ^ r.size m.head = lawful.cells ∙ ap (λ c. cond c (2 ^ r.size m.head) 0) carries in
        let d : Cell = record { byte = 0; on = true; bad = false } in
        slice_get_within b.lanes (lane_of m.home i w) (get_or m.cells i d).byte
        (spells.bytes i (get_or m.cells i d) (slice_get-get_or m.cells i d (omega arith)) place);
    bytes = λ carries i inside place.
        let n : length m.cells ≡ 2 ^ r.size m.head = lawful.cells ∙ ap (λ c. cond c (2 ^ r.size m.head) 0) carries in
        let d : Cell = record { byte = 0; on = true; bad = false } in
        let at : slice_index b.lanes (lane_of m.home i w) ≡ (get_or m.cells i d).byte =
        get_or_from_slice_get b.lanes (lane_of m.home i w) (get_or m.cells i d).byte 0
        (spells.bytes i (get_or m.cells i d) (slice_get-get_or m.cells i d (omega arith)) place) in
        let small : (get_or m.cells i d).byte < 256 = All-get_or (λ y. y.byte < 256) m.cells i d (omega arith) lawful.bytes in
        omega arith;
    fits = λ masked.
        let home : m.home ≡ r.lane_address m.head 0 = sym lawful.home ∙ masked_address masked m.head m.home 0 in
        let A : ℕ → Type 0 = λ a. MaskFits a (r.size m.head) w (r.partial m.head) b.mask in
        let B : H → Type 0 = λ h. MaskFits (r.lane_address h 0) (r.size h) w (r.partial h) b.mask in
        subst B (sym spells.head) (subst A home (mask-fits r m w j ww (room-of r m.head w j ww lt) b masked lawful (spells.mask masked)));
    clean = spells.clean;
  }
