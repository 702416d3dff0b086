-- The reasons why the channels of a script stop. Only contracts of private functions use these definitions.
use Rattle.std.specs.Prelude.{◌≡◌, ℕ, take}
use Rattle.tl_msg.specs.Tables.{rules_a, rules_b, rules_c, rules_d, rules_e}
use Rattle.tl_burst.specs.Begun.{left}
use Rattle.tl_settle.specs.Outcomes.{Beats, verdict_of, verdict_a, verdict_d, verdict_alone}
use Rattle.tl_check.specs.declared.judge.Judge.{Judge}
use Rattle.tl_check.specs.declared.judge.Stops.{Stops}

-- if the channels stop for these reasons, a judge has found their verdicts
pub record EndsWith {C M : ℕ} (near : Beats C M) (judge : Judge C M) (stops : Stops) : Type 0 where
  pub a : verdict_of judge.a.at judge.a.far (left rules_a C (take judge.a.at near.a)) stops.a ≡ verdict_a near.a near.d
  pub b : verdict_of judge.b.at judge.b.far (left rules_b M (take judge.b.at near.b)) stops.b ≡ verdict_alone rules_b C near.b
  pub c : verdict_of judge.c.at judge.c.far (left rules_c C (take judge.c.at near.c)) stops.c ≡ verdict_alone rules_c M near.c
  pub d : verdict_of judge.d.at judge.d.far (left rules_d M (take judge.d.at near.d)) stops.d ≡ verdict_d near.a near.d
  pub e : verdict_of judge.e.at judge.e.far (left rules_e C (take judge.e.at near.e)) stops.e ≡ verdict_alone rules_e M near.e
