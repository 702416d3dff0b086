use Rattle.tl_check.proofs.Ends.{starts-at}
use Rattle.tl_check.proofs.judge.Judge.new.Goals as goal

pub returns-clause-judged : goal.returns-clause-judged
returns-clause-judged g c = λ near. record {
  a = c.new.ensures.come g.row.M near.a;
  b = c.new-2.ensures.come g.row.C near.b;
  c = c.new-3.ensures.come g.row.M near.c;
  d = c.new-4.ensures.come g.row.C near.d;
  e = c.new-5.ensures.come g.row.M near.e;
  both = starts-at near.a near.d c.new.result.at c.new-4.result.at c.args.client c.args.manager c.new.ensures.begins c.new-4.ensures.begins
      c.requires.client c.requires.manager;
}
