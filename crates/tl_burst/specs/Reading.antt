-- The message that beats carry, read back from them.
use Rattle.std.specs.Prelude.{◌/◌, ◌^◌, ◌==◌, ℕ, true, false, cond, not, Option, None, Some, List, [], map, slice_get, slice_index}
use Rattle.std.specs.List.{range_with_len}
use Rattle.std.specs.Int.{bit_at}
use Rattle.tl_lanes.specs.Lanes.{lane_of}
use Rattle.tl_msg.specs.Rules.{Rules}
use Rattle.tl_msg.specs.declared.beat.BeatOf.{BeatOf}
use Rattle.tl_burst.specs.Messages.{Cell, Message, per_beat}

module _ {H : Type 0} (r : Rules H) where
  -- a byte, read from its lane of its beat. If the beat is not there yet, the byte is 0, not corrupt, and enabled
  -- unless the message is PutPartialData
  abbrev pub cell_of : H → (w lane : ℕ) → Option (BeatOf H w) → Cell
  cell_of h w lane None = record { byte = 0; on = not (r.partial h); bad = false }
  cell_of h w lane (Some b) = record {
    byte = slice_index b.lanes lane;
    on = cond (r.partial h) (bit_at b.mask lane == 1) true;
    bad = b.corrupt;
  }

  -- the message with this head and home of which bs are all beats, or the first ones
  abbrev pub message_of : H → (w home : ℕ) → List (BeatOf H w) → Message H
  message_of h w home bs = record {
    head = h;
    home = home;
    cells = cond (r.carries h)
        (map (λ i. cell_of h w (lane_of home i w) (slice_get bs (i / per_beat r h w))) (range_with_len 0 (2 ^ r.size h))) [];
  }
