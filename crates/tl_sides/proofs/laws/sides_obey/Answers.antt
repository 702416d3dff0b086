use Rattle.tl_settle.proofs.Obeys.{obeys_none}
use Rattle.tl_sides.proofs.Words.{rules_b, rules_c, rules_e, seen_by}
use Rattle.tl_sides.proofs.Legal.{order_obeyed, rounds_in_order, rounds_obeyed, taken_fine}
use Rattle.tl_sides.proofs.laws.sides_obey.Goals as goal

pub returns : goal.returns
returns g c = record {
  begins = (obeys_none, obeys_none);
  always = λ s t x y met. order_obeyed s t x y met met.order;
  goes_on = λ s s' t t' x x' y y' on o. rounds_obeyed s s' t t' x x' y y' on o;
  order_goes_on = λ s s' t t' x x' y y' on. rounds_in_order s s' t t' x x' y y' on on.met.order;
  alone = λ s t x y met. (
    taken_fine rules_b (seen_by rules_b s.b y.b x.b) met.b.crosses c.due_has_no_faults.ensures,
    taken_fine rules_c (seen_by rules_c t.c x.c y.c) met.c.crosses c.due_has_no_faults-2.ensures,
    taken_fine rules_e (seen_by rules_e t.e x.e y.e) met.e.crosses c.due_has_no_faults-3.ensures,
  );
}
