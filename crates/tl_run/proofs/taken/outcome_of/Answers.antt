use Rattle.tl_run.proofs.Names.{ap}
use Rattle.tl_run.proofs.taken.outcome_of.Goals as goal

pub returns-clause-ends : goal.returns-clause-ends
returns-clause-ends g c = λ near verdicts few same. record {
  far_a = ap (λ q. q.a) same;
  far_b = ap (λ q. q.b) same;
  far_c = ap (λ q. q.c) same;
  far_d = ap (λ q. q.d) same;
  far_e = ap (λ q. q.e) same;
  verdicts_are = verdicts;
  few_rounds = few;
}
