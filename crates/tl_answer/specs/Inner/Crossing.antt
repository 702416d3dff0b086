-- How a run that writes texts relates to the beats of a trace of a version. Only private contracts use these words.
use Rattle.std.specs.Prelude.{◌≡◌, ℕ}
use Rattle.tl_settle.specs.Outcomes.{Beats}
use Rattle.tl_trace.specs.Scripts.{Discarded, HasRemoved}
use Rattle.tl_trace.specs.declared.script.Script.{Script}
use Rattle.tl_trace.specs.declared.script.Counts.{Counts}
use Rattle.tl_parts.specs.Parts.{AreGoing, ArePart, AreWaiting}
use Rattle.tl_parts.specs.Stopping.{AreStuck}
use Rattle.tl_run.specs.Running.{as_counts}
use Rattle.tl_run.specs.Streaming.{CanRun, HasRun}
use Rattle.tl_answer.specs.Inner.FarTexts.{HasLines}
use Rattle.tl_answer.specs.Inner.Consuming.{GoesWith}
use Rattle.tl_answer.specs.declared.crossing.Crossing.{Crossing}

-- it writes the lines in this version
pub record Crosses {C M : ℕ} (version : ℕ) (x : Crossing C M) (discarded : Discarded C M) (s : Script C M) : Type 0 where
  pub version_is : x.far.version ≡ version
  pub goes : GoesWith x.run.discarded (CanRun x.run) (λ beats. HasRun HasLines beats x.far x.run) discarded s

-- it advances as far as these beats allow. Enough of them are removed that fewer done beats are kept than waiting ones
pub record CrossesOn {C M : ℕ} (before after : Crossing C M) (s : Script C M) (counts : Counts) : Type 0 where
  pub stuck : (near : Beats C M) → ArePart before.run.discarded s near → HasRun HasLines near before.far before.run →
      AreStuck near before.run.discarded (as_counts after.run.at) s
  pub going : AreGoing before.run.discarded (as_counts after.run.at) s counts
  pub waiting : (rest : Script C M) → HasRemoved counts s rest → AreWaiting after.run.discarded (as_counts after.run.at) rest
