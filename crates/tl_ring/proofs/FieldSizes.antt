-- A field takes no more bytes of memory than its struct, and a beat takes few.
use Rattle.tl_ring.proofs.Names.{ℕ, zero, suc, ◌+◌, ◌*◌, ◌≤◌, ◌<◌, max, arith, IsWidth, STAGE_CAPACITY}
use Rattle.tl_lanes.proofs.Masks.{mask_width}
use Rattle.tl_lanes.proofs.Widths.{width_bounds}
use Rattle.tl_lanes.proofs.Sizes.{align-small, up_le}
use mir.Syntax.{Ty, Tys, tnil, tcons, ty_struct, ty_int, ty_unit}
use prog.Memory.{size, align, aligns, up, end_of}
use prog.Align.{up-ge, end_ge}

abbrev pub field_of : Tys → ℕ → Ty
field_of tnil k = ty_unit
field_of (tcons t ts) zero = t
field_of (tcons t ts) (suc k) = field_of ts k

end_holds : (e : ℕ) (ts : Tys) (k : ℕ) → size (field_of ts k) ≤ end_of e ts
end_holds e tnil k = omega arith
end_holds e (tcons t ts) zero = let h = end_ge (up (align t) e + size t) ts in omega arith
end_holds e (tcons t ts) (suc k) = end_holds (up (align t) e + size t) ts k

-- the type of a field of a struct, by its number
abbrev pub part : Ty → ℕ → Ty
part (ty_struct name ts) k = field_of ts k
part t k = ty_unit

pub part_small : (t : Ty) (k n : ℕ) → size t < n → size (part t k) < n
part_small (ty_struct name ts) k n small =
    let h = end_holds zero ts k in let g = up-ge (aligns ts) (end_of zero ts) in omega arith
part_small t k n small = omega arith

-- nor does a field of a field
pub inner_small : (t : Ty) (k j n : ℕ) → size t < n → size (part (part t k) j) < n
inner_small t k j n small = part_small (part t k) j n (part_small t k n small)

-- the bytes of a mask, which it is aligned to
abbrev pub mask_bytes : ℕ
mask_bytes = size (ty_int mask_width)

-- a beat fits in memory: its mask begins after a head of any channel
pub beat_small : (w : ℕ) → IsWidth w → up mask_bytes (up 1 (mask_bytes + mask_bytes + w * 1) + 1) < 9223372036854775808
beat_small w width =
    let most = (width_bounds w width).1 in
    let lanes = up_le 1 (mask_bytes + mask_bytes + w * 1) in
    let whole = up_le mask_bytes (up 1 (mask_bytes + mask_bytes + w * 1) + 1) in
    omega arith

-- the bytes of a beat of width w, and of a queue of such beats, if a head has s bytes, is aligned to a, and is at a
-- multiple of x
abbrev beat_bytes : (a x s w : ℕ) → ℕ
beat_bytes a x s w = up (max a mask_bytes) (up 1 (up 1 (up mask_bytes (up x 0 + s) + mask_bytes) + w * 1) + 1)

beat_bytes-small : (a x s w : ℕ) → a ≤ 16 → x ≤ 16 → s ≤ 32 → IsWidth w → beat_bytes a x s w ≤ 256
beat_bytes-small a x s w ha hx hs width =
    let most = (width_bounds w width).1 in
    let head = up_le x 0 in
    let mask = up_le mask_bytes (up x 0 + s) in
    let lanes = up_le 1 (up mask_bytes (up x 0 + s) + mask_bytes) in
    let corrupt = up_le 1 (up 1 (up mask_bytes (up x 0 + s) + mask_bytes) + w * 1) in
    let whole = up_le (max a mask_bytes) (up 1 (up 1 (up mask_bytes (up x 0 + s) + mask_bytes) + w * 1) + 1) in
    omega arith

pub beat_fits : (head place : Ty) (w : ℕ) → size head ≤ 32 → IsWidth w → beat_bytes (align head) (align place) (size head) w < 9223372036854775808
beat_fits head place w small width =
    let beat = beat_bytes-small (align head) (align place) (size head) w (align-small head) (align-small place) small width in omega arith

abbrev queue_bytes : (a x s w : ℕ) → ℕ
queue_bytes a x s w =
    let m1 : ℕ = max (max (max a mask_bytes) 1) 8 in
    let m2 : ℕ = max (max a mask_bytes) 1 in
    up (max m1 8) (up 8 (up m1 0 + up m1 (up 1 (up 8 (up m2 0 + up m2 (up (max a mask_bytes) 0 + STAGE_CAPACITY * beat_bytes a x s w)) + 8) + 0)) + 8)

-- one of its beats takes no more
pub beat_in_queue : (head place : Ty) (w n : ℕ) → queue_bytes (align head) (align place) (size head) w < n →
    beat_bytes (align head) (align place) (size head) w < n
beat_in_queue head place w n small =
    let a : ℕ = align head in
    let beat : ℕ = beat_bytes a (align place) (size head) w in
    let m1 : ℕ = max (max (max a mask_bytes) 1) 8 in
    let m2 : ℕ = max (max a mask_bytes) 1 in
    let items : ℕ = up (max a mask_bytes) 0 + STAGE_CAPACITY * beat in
    let one = up-ge m2 items in
    let two = up-ge 8 (up m2 0 + up m2 items) in
    let three = up-ge 1 (up 8 (up m2 0 + up m2 items) + 8) in
    let four = up-ge m1 (up 1 (up 8 (up m2 0 + up m2 items) + 8) + 0) in
    let five = up-ge 8 (up m1 0 + up m1 (up 1 (up 8 (up m2 0 + up m2 items) + 8) + 0)) in
    let six = up-ge (max m1 8) (up 8 (up m1 0 + up m1 (up 1 (up 8 (up m2 0 + up m2 items) + 8) + 0)) + 8) in
    omega arith
