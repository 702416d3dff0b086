-- A tracker fits in memory if the heads of its channel are small, and so do the positions of a list of beats.
use Rattle.tl_convert.proofs.Names.{◌≤◌, ◌<◌, ◌+◌, ◌*◌, ℕ, max, arith, mul-le-mul, WIDEST}
use prog.Memory.{up, size, align}
use prog.Align.{up-ge}
use mir.Syntax.{Ty, w64}
use mir.Val.{Fits}
use Rattle.tl_lanes.proofs.Sizes.{align-small, up_le}

-- the bytes of a tracker whose heads have s bytes and are aligned to a, and lie at a multiple of x: the open burst, and 32 of what it holds
abbrev pub tracker_bytes : (a x s : ℕ) → ℕ
tracker_bytes a x s =
    let m : ℕ = max 1 (max (max (max a 4) 1) 1) in
    up (max m 16) (up 16 (up m 0 + up m (max 1 (max (up (max a 4) 1 + up (max a 4) (up 4 (up x 0 + s) + 4)) 1))) + 32)

-- these are few
bytes-few : (a x s : ℕ) → a ≤ 16 → x ≤ 16 → s ≤ 32 → tracker_bytes a x s < 1000
bytes-few a x s ha hx hs =
    let m : ℕ = max 1 (max (max (max a 4) 1) 1) in
    let burst : ℕ = max 1 (max (up (max a 4) 1 + up (max a 4) (up 4 (up x 0 + s) + 4)) 1) in
    let one : up x 0 ≤ 0 + x = up_le x 0 in
    let two : up 4 (up x 0 + s) ≤ up x 0 + s + 4 = up_le 4 (up x 0 + s) in
    let three : up (max a 4) (up 4 (up x 0 + s) + 4) ≤ up 4 (up x 0 + s) + 4 + max a 4 = up_le (max a 4) (up 4 (up x 0 + s) + 4) in
    let four : up (max a 4) 1 ≤ 1 + max a 4 = up_le (max a 4) 1 in
    let five = up_le m burst in
    let six = up_le m 0 in
    let seven = up_le 16 (up m 0 + up m burst) in
    let eight = up_le (max m 16) (up 16 (up m 0 + up m burst) + 32) in
    omega arith

pub tracker-few : (τ σ : Ty) → size τ ≤ 32 → tracker_bytes (align τ) (align σ) (size τ) < 1000
tracker-few τ σ small = bytes-few (align τ) (align σ) (size τ) (align-small τ) (align-small σ) small

pub tracker-fits : (τ σ : Ty) → size τ ≤ 32 → tracker_bytes (align τ) (align σ) (size τ) < 9223372036854775808
tracker-fits τ σ small = let few = tracker-few τ σ small in omega arith

-- the bytes of a beat of width v, and of a list of such beats, if a head has s bytes, is aligned to a, and is at a multiple of x
abbrev pub beat_bytes : (a x s v : ℕ) → ℕ
beat_bytes a x s v = up (max a 16) (up 1 (up 1 (up 16 (up x 0 + s) + 16) + v * 1) + 1)

abbrev list_bytes : (a x s v : ℕ) → ℕ
list_bytes a x s v =
    let m : ℕ = max (max a 16) 1 in
    up (max m 8) (up 1 (up 8 (up m 0 + up m (up (max a 16) 0 + WIDEST * beat_bytes a x s v)) + 8) + 0)

place-fits : (a m n beat t : ℕ) → up n (up 1 (up 8 (up m 0 + up m (up a 0 + WIDEST * beat)) + 8) + 0) < 9223372036854775808 → t ≤ WIDEST →
    Fits w64 (t * beat)
place-fits a m n beat t small le =
    let same : beat ≤ beat = omega arith in
    let most : t * beat ≤ WIDEST * beat = mul-le-mul le same in
    let one = up-ge m (up a 0 + WIDEST * beat) in
    let two = up-ge 8 (up m 0 + up m (up a 0 + WIDEST * beat)) in
    let three = up-ge 1 (up 8 (up m 0 + up m (up a 0 + WIDEST * beat)) + 8) in
    let four = up-ge n (up 1 (up 8 (up m 0 + up m (up a 0 + WIDEST * beat)) + 8) + 0) in
    record { fits = omega arith }

-- if the list fits in memory, a beat's position in it has few bytes before it
pub place_fits : (head place : Ty) (v t : ℕ) → list_bytes (align head) (align place) (size head) v < 9223372036854775808 → t ≤ WIDEST →
    Fits w64 (t * beat_bytes (align head) (align place) (size head) v)
place_fits head place v t small le =
    place-fits (max (align head) 16) (max (max (align head) 16) 1) (max (max (max (align head) 16) 1) 8)
    (beat_bytes (align head) (align place) (size head) v) t small le
