-- The state of a judge of a script.
use Rattle.std.specs.Prelude.{ℕ, length}
use Rattle.tl_msg.specs.Tables.{rules_a, rules_b, rules_c, rules_d, rules_e}
use Rattle.tl_settle.specs.Outcomes.{Beats}
use Rattle.tl_trace.specs.declared.script.Counts.{Counts}
use Rattle.tl_trace.specs.declared.script.Script.{Script}
use Rattle.tl_check.specs.Places.{AreAt, HasCome, IsWithin}
use Rattle.tl_check.specs.declared.judge.Judge.{Judge}

module _ {C M : ℕ} where
  -- the state of a judge is that of these near beats, of which it has judged some: the progress of each channel, and
  -- for A and D the histories of both sides
  pub record HasJudged (near : Beats C M) (judge : Judge C M) : Type 0 where
    pub a : HasCome rules_a M near.a judge.a.tracker judge.a.at judge.a.far
    pub b : HasCome rules_b C near.b judge.b.tracker judge.b.at judge.b.far
    pub c : HasCome rules_c M near.c judge.c.tracker judge.c.at judge.c.far
    pub d : HasCome rules_d C near.d judge.d.tracker judge.d.at judge.d.far
    pub e : HasCome rules_e M near.e judge.e.tracker judge.e.at judge.e.far
    pub both : AreAt near.a near.d judge.a.at judge.d.at judge.client judge.manager

  -- the number of near beats of each channel that a judge has accepted
  abbrev pub places : Judge C M → Counts
  places judge = record { a = judge.a.at; b = judge.b.at; c = judge.c.at; d = judge.d.at; e = judge.e.at }

  -- on each channel, the beats that a judge has accepted were discarded or are held by the script
  pub record CanJudge (judge : Judge C M) (held : Script C M) : Type 0 where
    pub a : IsWithin judge.discarded.a judge.a.at judge.a.far (length held.a.items)
    pub b : IsWithin judge.discarded.b judge.b.at judge.b.far (length held.b.items)
    pub c : IsWithin judge.discarded.c judge.c.at judge.c.far (length held.c.items)
    pub d : IsWithin judge.discarded.d judge.d.at judge.d.far (length held.d.items)
    pub e : IsWithin judge.discarded.e judge.e.at judge.e.far (length held.e.items)
