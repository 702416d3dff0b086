-- A channel that is refused its next beat for a reason is stuck, and so is one whose beats are used up.
use Rattle.std.proofs.Common.{◌≡◌, ◌≢◌, Option, None, Some, ◌∙◌}
use Rattle.std.specs.Option.{option_map_or}
use Rattle.std.specs.Prelude.{IfSome}

-- the reason why a beat is refused, if there is a beat
pub stuck-by : {B Reason : Type 0} (stops : B → Option Reason) (next : Option B) (o : Option Reason) → o ≡ option_map_or stops next None →
    (o ≡ None → next ≡ None) → IfSome next (λ b. stops b ≢ None)
stuck-by stops None o e all = tt
stuck-by stops (Some b) o e all = λ free. cc (all (e ∙ free))
