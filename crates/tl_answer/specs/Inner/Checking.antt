-- How a judge relates to the beats of a trace of a version. Only private contracts use these words.
use Rattle.std.specs.Prelude.{ℕ}
use Rattle.tl_settle.specs.Outcomes.{Beats}
use Rattle.tl_trace.specs.Scripts.{Discarded, HasRemoved}
use Rattle.tl_trace.specs.declared.script.Script.{Script}
use Rattle.tl_trace.specs.declared.script.Counts.{Counts}
use Rattle.tl_parts.specs.Parts.{AreGoing, ArePart, AreWaiting}
use Rattle.tl_parts.specs.Stopping.{AreStuck}
use Rattle.tl_check.specs.Judging.{CanJudge, HasJudged, places}
use Rattle.tl_check.specs.declared.judge.Judge.{Judge}
use Rattle.tl_answer.specs.Inner.Consuming.{GoesWith}

abbrev pub Judges : {C M : ℕ} → (version : ℕ) → Judge C M → Discarded C M → Script C M → Type 0
Judges version judge discarded s = GoesWith judge.discarded (CanJudge judge) (λ beats. HasJudged beats judge) discarded s

-- it advances as far as these beats allow. Enough of them are removed that fewer done beats are kept than waiting ones
pub record JudgesOn {C M : ℕ} (before after : Judge C M) (s : Script C M) (counts : Counts) : Type 0 where
  pub stuck : (near : Beats C M) → ArePart before.discarded s near → HasJudged near before → AreStuck near before.discarded (places after) s
  pub going : AreGoing before.discarded (places after) s counts
  pub waiting : (rest : Script C M) → HasRemoved counts s rest → AreWaiting after.discarded (places after) rest
