-- A mask in the two words of 64 bits that C passes (this project's choice).
use Rattle.std.specs.Prelude.{◌+◌, ◌*◌, ◌/◌, ◌%◌, ◌^◌, ℕ}

-- the mask of a word with the lanes from 0 to 63 and of one with those from 64 on
abbrev pub whole_mask : (low high : ℕ) → ℕ
whole_mask low high = high * 2 ^ 64 + low

-- the word with the lanes from 0 to 63, and the one with those from 64 on
abbrev pub low_word : (mask : ℕ) → ℕ
low_word mask = mask % 2 ^ 64

abbrev pub high_word : (mask : ℕ) → ℕ
high_word mask = mask / 2 ^ 64
