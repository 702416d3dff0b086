-- How many beats passed, as 64 bits count them (this project's choice).
use Rattle.std.specs.Prelude.{◌≡◌, ℕ, ◌<◌, ◌-◌, ◌^◌, List, length, min}

-- a number, or the highest of 64 bits for one that is higher
abbrev pub counted : ℕ → ℕ
counted n = min n (2 ^ 64 - 1)

-- a number is that of these beats, if they are fewer than 2^63
abbrev pub IsNumberOf : {B : Type 0} → ℕ → List B → Type 0
IsNumberOf n beats = length beats < 2 ^ 63 → n ≡ length beats
