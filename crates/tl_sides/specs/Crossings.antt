-- The reason why a beat is refused on a channel that does not depend on another channel: the beat's own fault (this
-- project's choice).
use Rattle.std.specs.Prelude.{ℕ, Option, None, Some, List}
use Rattle.std.specs.Option.{option_map_or}
use Rattle.tl_sides.specs.Words.{Rules, BeatOf, SideFault, Beat, fault_after}

-- None if it is accepted
abbrev pub stops_alone : {H : Type 0} (r : Rules H) {w : ℕ} → List (BeatOf H w) → BeatOf H w → Option SideFault
stops_alone r bs b = option_map_or (λ fault. Some (Beat fault)) (fault_after r bs b) None
