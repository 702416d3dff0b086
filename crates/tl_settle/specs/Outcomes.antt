-- The final state of a script: the far beats and the verdict of each channel (this project's choice).
use Rattle.std.specs.Prelude.{◌==◌, ℕ, Option, None, Some, List, [], ◌∷◌, length, map, take, slice_get, if◌then◌else◌}
use Rattle.std.specs.Option.{option_map_or}
use Rattle.tl_msg.specs.Rules.{Rules}
use Rattle.tl_msg.specs.Tables.{rules_a, rules_b, rules_c, rules_d, rules_e}
use Rattle.tl_msg.specs.declared.head.HeadA.{HeadA}
use Rattle.tl_msg.specs.declared.head.HeadB.{HeadB}
use Rattle.tl_msg.specs.declared.head.HeadC.{HeadC}
use Rattle.tl_msg.specs.declared.head.HeadD.{HeadD}
use Rattle.tl_msg.specs.declared.head.HeadE.{HeadE}
use Rattle.tl_msg.specs.declared.beat.BeatOf.{BeatOf}
use Rattle.tl_msg.specs.declared.fault.SideFault.{SideFault}
use Rattle.tl_msg.specs.declared.fault.SideFault.TheVariants.{Beat, SourceBusy, NoRequest}
use Rattle.tl_msg.specs.declared.verdict.Verdict.{Verdict}
use Rattle.tl_msg.specs.declared.verdict.Verdict.TheVariants.{Done, Cut, Refused, Waiting}
use Rattle.tl_burst.specs.Handing.{fault_after}
use Rattle.tl_burst.specs.Begun.{heads, left}
use Rattle.tl_convert.specs.Due.{due}
use Rattle.tl_convert.specs.Accepted.{accepted_of}
use Rattle.tl_settle.specs.Settling.{settled_state, far_a, far_d, stops_a, stops_d}

-- a verdict: `n` near beats were accepted and make `far` far beats due, `lacks` beats are missing from the last
-- message, and the next beat is refused for a reason, or there is none
abbrev pub verdict_of : (n far lacks : ℕ) → (stopped_by : Option SideFault) → Verdict
verdict_of n far lacks None = if lacks == 0 then Done n far else Cut n far
verdict_of n far lacks (Some SourceBusy) = Waiting n SourceBusy
verdict_of n far lacks (Some NoRequest) = Waiting n NoRequest
verdict_of n far lacks (Some fault) = Refused n fault

module _ {H : Type 0} (r : Rules H) {w : ℕ} where
  -- the same for the n accepted beats and the next one, if `stops` returns the reason why a beat is refused
  abbrev pub verdict_at : (n far : ℕ) (accepted : List (BeatOf H w)) (next : Option (BeatOf H w)) (stops : BeatOf H w → Option SideFault) → Verdict
  verdict_at n far accepted next stops = verdict_of n far (left r w accepted) (option_map_or stops next None)

  -- a channel that does not depend on another channel, B, C or E: the longest handed first part of its list is
  -- accepted, that is, the beats before the first one that has a fault at its place
  abbrev pub far_alone : (v : ℕ) → List (BeatOf H w) → List (BeatOf H v)
  far_alone v bs = due r w v (accepted_of r bs) (map (λ h. r.lane_address h 0) (heads r w (accepted_of r bs)))

  abbrev pub verdict_alone : (v : ℕ) → List (BeatOf H w) → Verdict
  verdict_alone v bs = let n = length (accepted_of r bs) in
      verdict_at n (length (far_alone v bs)) (accepted_of r bs) (slice_get bs n)
      (λ b. option_map_or (λ fault. Some (Beat fault)) (fault_after r (accepted_of r bs) b) None)

-- A and D, at their settled state
module _ {C M : ℕ} (a : List (BeatOf HeadA C)) (d : List (BeatOf HeadD M)) where
  abbrev pub verdict_a : Verdict
  verdict_a = let s = settled_state a d in verdict_at rules_a s.a (length (far_a a d s.a)) (take s.a a) (slice_get a s.a) (stops_a a d s.a s.d)

  abbrev pub verdict_d : Verdict
  verdict_d = let s = settled_state a d in verdict_at rules_d s.d (length (far_d a d s.d)) (take s.d d) (slice_get d s.d) (stops_d a d s.a s.d)

-- the beats of the five channels, those of A, C and E on C lanes and those of B and D on M lanes: the near beats of a
-- script, on the lanes of their senders. Its far beats, on the lanes of their receivers, are Beats M C
pub record Beats (C M : ℕ) : Type 0 where
  pub a : List (BeatOf HeadA C)
  pub b : List (BeatOf HeadB M)
  pub c : List (BeatOf HeadC C)
  pub d : List (BeatOf HeadD M)
  pub e : List (BeatOf HeadE C)

-- the final state of the near beats of a script
module _ {C M : ℕ} (near : Beats C M) where
  -- the accepted near beats
  abbrev pub accepted_beats : Beats C M
  accepted_beats = record {
    a = take (settled_state near.a near.d).a near.a;
    b = accepted_of rules_b near.b;
    c = accepted_of rules_c near.c;
    d = take (settled_state near.a near.d).d near.d;
    e = accepted_of rules_e near.e;
  }

  -- the far beats that these make due
  abbrev pub far_beats : Beats M C
  far_beats = record {
    a = far_a near.a near.d (settled_state near.a near.d).a;
    b = far_alone rules_b C near.b;
    c = far_alone rules_c M near.c;
    d = far_d near.a near.d (settled_state near.a near.d).d;
    e = far_alone rules_e M near.e;
  }

  -- the verdicts of the five channels, A to E
  abbrev pub verdicts : List Verdict
  verdicts =
      verdict_a near.a near.d ∷ verdict_alone rules_b C near.b ∷ verdict_alone rules_c M near.c ∷ verdict_d near.a near.d ∷
      verdict_alone rules_e M near.e ∷ []
