use Rattle.tl_sides.proofs.Words.{rules_a, rules_b, rules_c, rules_d, rules_e}
use Rattle.tl_sides.proofs.Totals.{all_if_as_many}
use Rattle.tl_sides.proofs.laws.as_many_are_all.Goals as goal

pub returns : goal.returns
returns g c = λ s t x y met. record {
  a = all_if_as_many rules_a s.a t.a x.a _ met.a;
  b = all_if_as_many rules_b t.b s.b y.b _ met.b;
  c = all_if_as_many rules_c s.c t.c x.c _ met.c;
  d = all_if_as_many rules_d t.d s.d y.d _ met.d;
  e = all_if_as_many rules_e s.e t.e x.e _ met.e;
}
