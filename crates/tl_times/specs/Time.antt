-- A time (this project's choice). It has 1 to 18 decimal digits, optionally a point and up to 18 digits, and optionally
-- a unit of up to 3 characters. A unit is letters, optionally after a space. It does not change the value.
use Rattle.std.specs.Prelude.{◌==◌, ◌++◌, ◌+◌, ◌-◌, ◌*◌, ◌&&◌, ℕ, Bool, List, [], ◌∷◌, Option, Some, None, length, drop, replicate, nat_le, if◌then◌else◌}
use Rattle.std.specs.Char.{is_ascii_digit, is_ascii_alphabetic}
use Rattle.std.specs.List.{list_all, prefix_len, take_while}
use Rattle.std.specs.Str.Parse.{digits_value}
use Rattle.tl_times.specs.declared.time.TheConstants.{MOST_DIGITS, SCALE, LONGEST_UNIT}

-- the digits with which a text begins
abbrev pub digits_of : List ℕ → List ℕ
digits_of text = take_while is_ascii_digit text

-- the text after these digits
abbrev pub after_digits : List ℕ → List ℕ
after_digits text = drop (prefix_len is_ascii_digit text) text

-- a text without this byte at its beginning
abbrev pub without : (byte : ℕ) → List ℕ → List ℕ
without byte [] = []
without byte (first ∷ text) = if first == byte then text else first ∷ text

-- nothing, or a unit
abbrev pub is_unit : List ℕ → Bool
is_unit text = list_all is_ascii_alphabetic (without 32 text) && nat_le (length text) LONGEST_UNIT

-- digits with zeros after them, 18 in all
abbrev pub padded : (digits : List ℕ) → List ℕ
padded digits = digits ++ replicate (MOST_DIGITS - length digits) 48

-- the number of these digits before the point and these after it, multiplied by 10 ^ 18
abbrev pub scaled : (whole fraction : List ℕ) → ℕ
scaled whole fraction = digits_value 10 whole * SCALE + digits_value 10 (padded fraction)

abbrev pub time_with : (whole fraction unit : List ℕ) → Option ℕ
time_with whole fraction unit =
    if nat_le 1 (length whole) && nat_le (length whole) MOST_DIGITS && nat_le (length fraction) MOST_DIGITS && is_unit unit
    then Some (scaled whole fraction) else None

-- the time that a text is, multiplied by 10 ^ 18, if it is one
abbrev pub time_of : List ℕ → Option ℕ
time_of text =
    let after = without 46 (after_digits text) in
    time_with (digits_of text) (digits_of after) (after_digits after)
