-- A beat fits in memory.
use Rattle.tl_trace.proofs.Names.{ℕ, ◌+◌, ◌*◌, ◌≤◌, ◌<◌, arith, WIDEST}
use Rattle.tl_lanes.proofs.Masks.{mask_width}
use Rattle.tl_lanes.proofs.Sizes.{up_le}
use mir.Syntax.{ty_int}
use prog.Memory.{size, up}

-- the bytes of a mask, which it is aligned to
abbrev mask_bytes : ℕ
mask_bytes = size (ty_int mask_width)

-- the mask begins after a head of any channel
pub beat_room : (w : ℕ) → w ≤ WIDEST → up mask_bytes (up 1 (mask_bytes + mask_bytes + w * 1) + 1) < 9223372036854775808
beat_room w few =
    let lanes = up_le 1 (mask_bytes + mask_bytes + w * 1) in
    let whole = up_le mask_bytes (up 1 (mask_bytes + mask_bytes + w * 1) + 1) in
    omega arith
