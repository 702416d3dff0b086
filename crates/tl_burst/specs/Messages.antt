-- Messages, and the layout of their bytes on beats, by the SiFive TileLink Specification 1.8: byte lanes, masks, burst
-- rules.
use Rattle.std.specs.Prelude.{◌≡◌, ◌+◌, ◌*◌, ◌/◌, ◌^◌, ◌<◌, ◌==◌, ◌&&◌, ◌||◌, ℕ, zero, suc, Bool, true, false, cond, not, Option, None, List, length}
use Rattle.std.specs.Prelude.{map, find, slice_get, All}
use Rattle.std.specs.List.{range_with_len}
use Rattle.std.specs.Option.{option_map_or}
use Rattle.tl_lanes.specs.Lanes.{bytes_per_beat, beats_per_message, lane_of, mask_of}
use Rattle.tl_msg.specs.Rules.{Rules}
use Rattle.tl_msg.specs.declared.beat.BeatOf.{BeatOf}

-- a byte of a message: its value, whether the mask enables it, and whether it is corrupt
pub record Cell : Type 0 where
  pub byte : ℕ
  pub on : Bool
  pub bad : Bool

-- a whole message, independent of a width: its head, its home (the address that decides the lanes), and its bytes if it
-- carries data
pub record Message (H : Type 0) : Type 0 where
  pub head : H
  pub home : ℕ
  pub cells : List Cell

-- whether a test is true for one of the n numbers from a on
abbrev pub some_of : (test : ℕ → Bool) → (a n : ℕ) → Bool
some_of test a zero = false
some_of test a (suc n) = some_of test a n || test (a + n)

module _ {H : Type 0} (r : Rules H) where
  -- a message that the link allows (signal descriptions, opcode and param tables). Addresses of 64 bits are this
  -- project's choice. Its requirements are:
  -- - its head has no fault;
  -- - its home is the address of its head (free on D, 0 on E);
  -- - it has 2 ^ size bytes if it carries data;
  -- - the mask enables each byte, except on PutPartialData
  pub record IsLawful (m : Message H) : Type 0 where
    pub fault : r.fault m.head ≡ None
    pub home : r.lane_address m.head m.home ≡ m.home
    pub home_small : m.home < 2 ^ 64
    pub cells : length m.cells ≡ cond (r.carries m.head) (2 ^ r.size m.head) 0
    pub on : r.partial m.head ≡ false → All (λ c. c.on ≡ true) m.cells
    pub bytes : All (λ c. c.byte < 256) m.cells

  -- the number of bytes per beat, and the number of beats (burst rules)
  abbrev pub per_beat : H → (w : ℕ) → ℕ
  per_beat h w = bytes_per_beat (r.size h) w

  abbrev pub beats_of : H → (w : ℕ) → ℕ
  beats_of h w = beats_per_message (r.carries h) (r.size h) w

  -- the byte on lane l of beat j, if any: with p bytes per beat, byte i is in beat i / p, on its lane (byte lanes)
  abbrev pub byte_on : Message H → (w j l : ℕ) → Option ℕ
  byte_on m w j l = find (λ i. (i / per_beat m.head w == j) && (lane_of m.home i w == l)) (range_with_len 0 (2 ^ r.size m.head))

  -- the value on lane l of beat j: its byte, or 0 if it has none. Zeros are this project's choice
  abbrev pub lane_value : Message H → (w j l : ℕ) → ℕ
  lane_value m w j l = option_map_or (λ i. option_map_or (λ c. c.byte) (slice_get m.cells i) 0) (byte_on m w j l) 0

  -- whether the mask of beat j has lane l. If the message carries data: lane l has a byte, and the mask enables that
  -- byte. If not: lane l is the lane of a byte that the message asks for (masks)
  abbrev pub lane_on : Message H → (w j l : ℕ) → Bool
  lane_on m w j l = option_map_or (λ i. option_map_or (λ c. c.on) (slice_get m.cells i) (not (r.carries m.head))) (byte_on m w j l) false

  -- the mask of beat j; on a channel without masks it is 0 (masks)
  abbrev pub mask_at : Message H → (w j : ℕ) → ℕ
  mask_at m w j = mask_of (λ l. r.masked && lane_on m w j l) w

  -- whether byte i is corrupt
  abbrev pub is_bad : Message H → (i : ℕ) → Bool
  is_bad m i = option_map_or (λ c. c.bad) (slice_get m.cells i) false

  -- beat j of a message at width w, as the bridge writes it. Corrupt is set if some byte of the beat is corrupt
  -- (gathering: this project's choice)
  abbrev pub beat_at : Message H → (w j : ℕ) → BeatOf H w
  beat_at m w j = record {
    head = m.head;
    mask = mask_at m w j;
    lanes = map (lane_value m w j) (range_with_len 0 w);
    corrupt = some_of (is_bad m) (j * per_beat m.head w) (per_beat m.head w);
  }

  -- all beats of a message at width w, as the bridge writes them
  abbrev pub layout : Message H → (w : ℕ) → List (BeatOf H w)
  layout m w = map (beat_at m w) (range_with_len 0 (beats_of m.head w))
