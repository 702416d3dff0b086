-- One line of a text of times.
use Rattle.std.specs.Prelude.{◌≡◌, ◌≤◌, ◌<◌, ◌∷◌, ℕ, List, length, drop, Option, Some, slice_get}
use Rattle.tl_trace.specs.Faults.{cut}
use Rattle.tl_times.specs.Times.{line_fault, time_in}
use Rattle.tl_times.specs.declared.times.NextTime.{NextTime}
use Rattle.tl_times.specs.declared.times.TimesKind.{TimesKind}

-- the fault of the line at this position of a text, after a line with the time `last`
abbrev pub first_fault : (text : List ℕ) (at last : ℕ) → Option TimesKind
first_fault text at last = line_fault last (slice_get (cut (drop at text)) 0)

-- the line at this position has this time and this end
pub record IsNextTime (text : List ℕ) (at last : ℕ) (next : NextTime) : Type 0 where
  pub line : List ℕ
  pub lines : cut (drop at text) ≡ line ∷ cut (drop next.end text)
  pub time : time_in line ≡ Some next.time
  pub order : last ≤ next.time
  pub from : at < next.end
  pub to : next.end ≤ length text
