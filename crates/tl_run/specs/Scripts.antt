-- The postconditions of the run of a script (this project's choice).
use Rattle.std.specs.Prelude.{◌≡◌, ◌+◌, ◌*◌, ◌<◌, ◌≤◌, ℕ, length}
use Rattle.tl_msg.specs.Tables.{rules_b, rules_c, rules_e}
use Rattle.tl_convert.specs.Accepted.{accepted_of}
use Rattle.tl_settle.specs.Settling.{settled_state}
use Rattle.tl_settle.specs.Outcomes.{Beats, far_beats, verdicts}
use Rattle.tl_sides.specs.declared.per_channel.PerChannel.{PerChannel}
use Rattle.tl_trace.specs.declared.script.Script.{Script}
use Rattle.tl_parts.specs.Parts.{near_beats}
use Rattle.tl_run.specs.declared.outcome.Outcome.{Outcome}

-- each of five counts is less than a number
pub record AreBelow (n : PerChannel ℕ) (k : ℕ) : Type 0 where
  pub a : n.a < k
  pub b : n.b < k
  pub c : n.c < k
  pub d : n.d < k
  pub e : n.e < k

module _ {C M : ℕ} (near : Beats C M) where
  -- the number of near beats of each channel that are accepted in the end
  abbrev pub near_counts : PerChannel ℕ
  near_counts = record {
    a = (settled_state near.a near.d).a;
    b = length (accepted_of rules_b near.b);
    c = length (accepted_of rules_c near.c);
    d = (settled_state near.a near.d).d;
    e = length (accepted_of rules_e near.e);
  }

  -- the number of near beats accepted in the end, on all channels
  abbrev pub near_count : ℕ
  near_count =
      let state = settled_state near.a near.d in
      state.a + length (accepted_of rules_b near.b) + length (accepted_of rules_c near.c) + state.d + length (accepted_of rules_e near.e)

  -- the number of far beats that these make due
  abbrev pub far_count : ℕ
  far_count =
      let far = far_beats near in length far.a + length far.b + length far.c + length far.d + length far.e

  -- the five lists of far beats and the five verdicts are those of the settled state, and the number of rounds is
  -- bounded
  pub record EndsIn (outcome : Outcome C M) : Type 0 where
    pub far_a : outcome.a.items ≡ (far_beats near).a
    pub far_b : outcome.b.items ≡ (far_beats near).b
    pub far_c : outcome.c.items ≡ (far_beats near).c
    pub far_d : outcome.d.items ≡ (far_beats near).d
    pub far_e : outcome.e.items ≡ (far_beats near).e
    pub verdicts_are : outcome.verdicts ≡ verdicts near
    pub few_rounds : outcome.rounds ≤ near_count + 2 * far_count + 1

-- the same for a script
abbrev pub SettlesTo : {C M : ℕ} → Script C M → Outcome C M → Type 0
SettlesTo s outcome = EndsIn (near_beats s) outcome
