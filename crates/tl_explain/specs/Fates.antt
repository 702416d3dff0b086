-- The outcome of a near beat (this project's choice), from its number on its channel, from 0, and the channel's
-- verdict: a verdict counts the accepted beats, and describes the one after them.
use Rattle.std.specs.Prelude.{ℕ, nat_lt, ◌==◌, if◌then◌else◌}
use Rattle.tl_msg.specs.declared.verdict.Verdict.{Verdict}
use Rattle.tl_msg.specs.declared.verdict.Verdict.TheVariants.{Done, Cut, Refused, Waiting}
use Rattle.tl_explain.specs.declared.beat_outcome.BeatOutcome.{BeatOutcome}
use Rattle.tl_explain.specs.declared.beat_outcome.BeatOutcome.TheVariants as fates

-- the outcome of beat `at` of a channel that stops at beat `stop` with this outcome
abbrev pub fate_beside : (at stop : ℕ) → BeatOutcome → BeatOutcome
fate_beside at stop fate = if nat_lt at stop then fates.Accepted else (if at == stop then fate else fates.NotOffered)

abbrev pub fate_of : (at : ℕ) → Verdict → BeatOutcome
fate_of at (Done near far) = fate_beside at near fates.NotOffered
fate_of at (Cut near far) = fate_beside at near fates.NotOffered
fate_of at (Refused stop fault) = fate_beside at stop (fates.Refused fault)
fate_of at (Waiting stop fault) = fate_beside at stop (fates.Waiting fault)
