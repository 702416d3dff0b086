-- The ends of a crossing of A at equal widths take few bytes of memory.
use Rattle.std.proofs.Common.{ℕ, ◌+◌, ◌*◌, ◌≤◌, ◌<◌, arith}
use Rattle.tl_lanes.specs.Lanes.{IsWidth}
use Rattle.tl_lanes.proofs.Widths.{width_bounds}
use Rattle.tl_lanes.proofs.Sizes.{up_le}
use Rattle.tl_ring.specs.declared.queue.TheConstants.{STAGE_CAPACITY}
use prog.Memory.{up}

-- the bytes of a beat of A of width w
abbrev beat_bytes : ℕ → ℕ
beat_bytes w = up 16 (up 1 (32 + w * 1) + 1)

beat_few : (w : ℕ) → IsWidth w → beat_bytes w ≤ 1024
beat_few w width =
    let most = (width_bounds w width).1 in
    let lanes = up_le 1 (32 + w * 1) in
    let whole = up_le 16 (up 1 (32 + w * 1) + 1) in
    omega arith

-- the bytes of a stage, or of an inbox, with beats of b bytes each
abbrev queue_bytes : ℕ → ℕ
queue_bytes b = up 8 (0 + up 16 (up 1 (up 8 (0 + up 16 (0 + STAGE_CAPACITY * b)) + 8) + 0)) + 8

queue_few : (b : ℕ) → b ≤ 1024 → queue_bytes b ≤ 1048576
queue_few b few =
    let items = up_le 16 (0 + STAGE_CAPACITY * b) in
    let counted = up_le 8 (0 + up 16 (0 + STAGE_CAPACITY * b)) in
    let aligned = up_le 1 (up 8 (0 + up 16 (0 + STAGE_CAPACITY * b)) + 8) in
    let array = up_le 16 (up 1 (up 8 (0 + up 16 (0 + STAGE_CAPACITY * b)) + 8) + 0) in
    let whole = up_le 8 (0 + up 16 (up 1 (up 8 (0 + up 16 (0 + STAGE_CAPACITY * b)) + 8) + 0)) in
    omega arith

-- the bytes of an outbox of such beats
abbrev outbox_bytes : ℕ → ℕ
outbox_bytes b = up 16 (up 1 (up 16 (0 + up 16 (80 + b)) + up 16 (queue_bytes b)) + 1)

outbox_few : (b : ℕ) → b ≤ 1024 → outbox_bytes b ≤ 2097152
outbox_few b few =
    let stage = queue_few b few in
    let placed = up_le 16 (queue_bytes b) in
    let converter = up_le 16 (80 + b) in
    let aligned = up_le 16 (0 + up 16 (80 + b)) in
    let both = up_le 1 (up 16 (0 + up 16 (80 + b)) + up 16 (queue_bytes b)) in
    let whole = up_le 16 (up 1 (up 16 (0 + up 16 (80 + b)) + up 16 (queue_bytes b)) + 1) in
    omega arith

pub sender_fits : (w : ℕ) → IsWidth w → up 16 (up 8 (0 + outbox_bytes (beat_bytes w)) + 48) < 9223372036854775808
sender_fits w width =
    let outbox = outbox_few (beat_bytes w) (beat_few w width) in
    let aligned = up_le 8 (0 + outbox_bytes (beat_bytes w)) in
    let whole = up_le 16 (up 8 (0 + outbox_bytes (beat_bytes w)) + 48) in
    omega arith

pub taker_fits : (w : ℕ) → IsWidth w →
    up 16 (up 16 (0 + up 16 (0 + up 16 (queue_bytes (beat_bytes w)))) + up 16 (48 + STAGE_CAPACITY * beat_bytes w)) < 9223372036854775808
taker_fits w width =
    let beat = beat_few w width in
    let inbox = queue_few (beat_bytes w) beat in
    let placed = up_le 16 (queue_bytes (beat_bytes w)) in
    let boxed = up_le 16 (0 + up 16 (queue_bytes (beat_bytes w))) in
    let aligned = up_le 16 (0 + up 16 (0 + up 16 (queue_bytes (beat_bytes w)))) in
    let intake = up_le 16 (48 + STAGE_CAPACITY * beat_bytes w) in
    let whole = up_le 16 (up 16 (0 + up 16 (0 + up 16 (queue_bytes (beat_bytes w)))) + up 16 (48 + STAGE_CAPACITY * beat_bytes w)) in
    omega arith
