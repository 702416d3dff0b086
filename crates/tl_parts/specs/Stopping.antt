-- How far the channels of a script that is read incrementally advance (this project's choice).
use Rattle.std.specs.Prelude.{◌≢◌, ◌-◌, ℕ, Option, None, List, take, slice_get, IfSome}
use Rattle.tl_msg.specs.Tables.{rules_b, rules_c, rules_e}
use Rattle.tl_msg.specs.declared.beat.BeatOf.{BeatOf}
use Rattle.tl_burst.specs.Handing.{fault_after}
use Rattle.tl_settle.specs.Outcomes.{Beats}
use Rattle.tl_settle.specs.Settling.{stops_a, stops_d}
use Rattle.tl_trace.specs.declared.script.Script.{Script}
use Rattle.tl_trace.specs.declared.script.Counts.{Counts}

-- `discarded` beats of a list were discarded, `held` come after them, and the first `at` of all were accepted: either the
-- held beats are used up, or there is a reason why the next one is refused
abbrev pub IsStuck : {H Reason : Type 0} {w : ℕ} (discarded at : ℕ) (held : List (BeatOf H w)) (stops : BeatOf H w → Option Reason) → Type 0
IsStuck discarded at held stops = IfSome (slice_get held (at - discarded)) (λ b. stops b ≢ None)

-- the same on each channel of a script with these near beats: on A and D the next beat is refused for the reason that
-- holds at this state of both, on B, C and E for a fault of its own
pub record AreStuck {C M : ℕ} (near : Beats C M) (discarded at : Counts) (held : Script C M) : Type 0 where
  pub a : IsStuck discarded.a at.a held.a.items (stops_a near.a near.d at.a at.d)
  pub b : IsStuck discarded.b at.b held.b.items (fault_after rules_b (take at.b near.b))
  pub c : IsStuck discarded.c at.c held.c.items (fault_after rules_c (take at.c near.c))
  pub d : IsStuck discarded.d at.d held.d.items (stops_d near.a near.d at.a at.d)
  pub e : IsStuck discarded.e at.e held.e.items (fault_after rules_e (take at.e near.e))
