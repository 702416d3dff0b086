-- The sizes that fit in memory. Only contracts within the two runs use these definitions.
use Rattle.std.specs.Prelude.{◌+◌, ◌*◌, ◌<◌, ℕ}
use prog.Memory.{up}

-- a beat of w bytes, whatever its channel is: its head, the bytes, its mask and whether it is corrupt
abbrev pub BeatFits : ℕ → Type 0
BeatFits w = up 16 (up 1 (32 + w * 1) + 1) < 9223372036854775808
