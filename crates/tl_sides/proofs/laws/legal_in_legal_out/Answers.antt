use Rattle.tl_sides.proofs.Words.{rules_b, rules_c, rules_e}
use Rattle.tl_sides.proofs.Legal.{taken_fine}
use Rattle.tl_sides.proofs.laws.legal_in_legal_out.Goals as goal

pub returns : goal.returns
returns g c bridge x h = record {
  client = h.client_obeys;
  manager = h.manager_obeys;
  order = h.order;
  b = taken_fine rules_b x.b h.b.crosses c.due_has_no_faults.ensures;
  c = taken_fine rules_c x.c h.c.crosses c.due_has_no_faults-2.ensures;
  e = taken_fine rules_e x.e h.e.crosses c.due_has_no_faults-3.ensures;
}
