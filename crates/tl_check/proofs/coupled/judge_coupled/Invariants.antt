use Rattle.tl_check.proofs.Names.{◌+◌, ◌-◌, List, length, rules_a, rules_d, HeadA, HeadD, BeatOf, AreAt, HasCome, IsWithin, IsPart}
use Rattle.tl_check.proofs.coupled.judge_coupled.Given as goal

abbrev pub invariant-passes : goal.invariant-passes
invariant-passes g l = record {
  within_a : IsWithin l.discarded.a l.asks.at l.asks.far (length l.a);
  within_d : IsWithin l.discarded.d l.answers.at l.answers.far (length l.d);
  come_a : (near : List (BeatOf HeadA g.row.C)) → IsPart l.discarded.a l.a near →
      HasCome rules_a g.row.M near l.fn.asks.tracker l.fn.asks.at l.fn.asks.far →
      HasCome rules_a g.row.M near l.asks.tracker l.asks.at l.asks.far;
  come_d : (near : List (BeatOf HeadD g.row.M)) → IsPart l.discarded.d l.d near →
      HasCome rules_d g.row.C near l.fn.answers.tracker l.fn.answers.at l.fn.answers.far →
      HasCome rules_d g.row.C near l.answers.tracker l.answers.at l.answers.far;
  both : (near : List (BeatOf HeadA g.row.C)) (back : List (BeatOf HeadD g.row.M)) → IsPart l.discarded.a l.a near → IsPart l.discarded.d l.d back →
      HasCome rules_a g.row.M near l.fn.asks.tracker l.fn.asks.at l.fn.asks.far →
      HasCome rules_d g.row.C back l.fn.answers.tracker l.fn.answers.at l.fn.answers.far →
      AreAt near back l.fn.asks.at l.fn.answers.at l.fn.client l.fn.manager → AreAt near back l.asks.at l.answers.at l.client l.manager;
}

abbrev pub decreases-passes : goal.decreases-passes
decreases-passes g l = l.discarded.d + length l.d - l.answers.at
