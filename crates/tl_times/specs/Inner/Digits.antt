-- The digits of a time, before its point or after it.
use Rattle.std.specs.Prelude.{◌≤◌, ℕ, List, length}
use Rattle.std.specs.Str.Parse.{AllDigits}
use Rattle.tl_times.specs.declared.time.TheConstants.{MOST_DIGITS}

-- at most 18 decimal digits
abbrev pub AreFewDigits : List ℕ → Type 0
AreFewDigits digits = AllDigits 10 digits × (length digits ≤ MOST_DIGITS)
