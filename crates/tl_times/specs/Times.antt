-- The times of a trace's beats: a text with a line for each beat (this project's choice).
use Rattle.std.specs.Prelude.{◌≡◌, ◌+◌, ◌-◌, ◌<◌, ℕ, zero, suc, List, length, Option, Some, None, is_none, slice_get, nat_lt, if◌then◌else◌}
use Rattle.std.specs.List.{list_any}
use Rattle.tl_msg.specs.Firsts.{unless}
use Rattle.tl_trace.specs.Faults.{cut, body, is_newline}
use Rattle.tl_times.specs.Time.{time_of}
use Rattle.tl_times.specs.declared.times.TimesKind.{TimesKind}
use Rattle.tl_times.specs.declared.times.TimesKind.TheVariants.{NoTime, Earlier, TooFew, TooMany}

-- the number of lines after the first one, which is the header of a trace; each has a beat
abbrev pub beats_of : (trace : List ℕ) → ℕ
beats_of trace = length (cut trace) - 1

-- the time in a line that has its end, if there is one
abbrev pub time_in : (line : List ℕ) → Option ℕ
time_in line = if list_any is_newline line then time_of (body line) else None

-- a time, or 0 if there is none
abbrev pub or_zero : Option ℕ → ℕ
or_zero None = 0
or_zero (Some time) = time

-- the time in a line, if there is such a line
abbrev pub time_at : Option (List ℕ) → Option ℕ
time_at None = None
time_at (Some line) = time_in line

-- the time of the line above a line, counted from 0; 0 above the first one
abbrev pub time_above : (lines : List (List ℕ)) → (at : ℕ) → ℕ
time_above lines zero = 0
time_above lines (suc at) = or_zero (time_at (slice_get lines at))

-- the fault of a time after a line with this one, if there is any
abbrev pub time_fault : (above : ℕ) → Option ℕ → Option TimesKind
time_fault above None = Some NoTime
time_fault above (Some time) = if nat_lt time above then Some Earlier else None

-- the fault of a line that should have the time of a beat
abbrev pub line_fault : (above : ℕ) → Option (List ℕ) → Option TimesKind
line_fault above None = Some TooFew
line_fault above (Some line) = time_fault above (time_in line)

-- the fault of the line at this position, counted from 0, if the trace has this number of beats. There is no line after
-- those of the beats.
abbrev pub fault_at : (times : List ℕ) (beats at : ℕ) → Option TimesKind
fault_at times beats at =
    let lines = cut times in
    if nat_lt at beats then line_fault (time_above lines at) (slice_get lines at) else unless (is_none (slice_get lines at)) TooMany

-- a text has a time for each of the beats, none of which is before that of the line above, and nothing else
abbrev pub AreTimes : (times : List ℕ) (beats : ℕ) → Type 0
AreTimes times beats = (at : ℕ) → fault_at times beats at ≡ None

-- `line`, counted from 1, is the first line that has a fault
pub record IsFirstBadTime (times : List ℕ) (beats line : ℕ) (kind : TimesKind) : Type 0 where
  pub before : ℕ
  pub place : line ≡ before + 1
  pub here : fault_at times beats before ≡ Some kind
  pub none_before : (at : ℕ) → at < before → fault_at times beats at ≡ None
