use Rattle.tl_run.proofs.Names.{bridge_small, refl, ap, rules_b, rules_c, rules_d, rules_e, rest_of, shut}
use Rattle.tl_run.proofs.Pieces.{on-closed, stop-is}
use Rattle.tl_run.proofs.streaming.close_each.Goals as goal

pub close_a-requires : goal.close_a-requires
close_a-requires g c = bridge_small g.row.C g.row.M c.requires.client c.requires.manager

pub close_b-requires : goal.close_b-requires
close_b-requires g c = bridge_small g.row.C g.row.M c.requires.client c.requires.manager

pub close_c-requires : goal.close_c-requires
close_c-requires g c = bridge_small g.row.C g.row.M c.requires.client c.requires.manager

pub close_d-requires : goal.close_d-requires
close_d-requires g c = bridge_small g.row.C g.row.M c.requires.client c.requires.manager

pub close_e-requires : goal.close_e-requires
close_e-requires g c = bridge_small g.row.C g.row.M c.requires.client c.requires.manager

pub returns : goal.returns
returns g c = λ x stands.
    on-closed x _ c.close_a.new.self x (record x { a = shut x.a }) (refl, refl, refl, refl, refl) (refl, refl, refl, refl, refl)
    c.close_a.result (c.close_a.ensures.stands x stands)
    c.close_a.ensures.refused stands (λ a on_a in_a.
    on-closed x _ c.close_b.new.self a (record a { b = shut a.b }) in_a in_a c.close_b.result (c.close_b.ensures.stands a on_a)
    c.close_b.ensures.refused on_a (λ b on_b in_b.
    on-closed x _ c.close_c.new.self b (record b { c = shut b.c }) in_b in_b c.close_c.result (c.close_c.ensures.stands b on_b)
    c.close_c.ensures.refused on_b (λ c' on_c in_c.
    on-closed x _ c.close_d.new.self c' (record c' { d = shut c'.d }) in_c in_c c.close_d.result (c.close_d.ensures.stands c' on_c)
    c.close_d.ensures.refused on_c (λ d on_d in_d.
    record {
      a = stop-is c.args.stopped_by.now.a c.close_a.result refl (c.close_a.ensures.between x stands) c.stop_of.ensures;
      b = stop-is c.args.stopped_by.now.b c.close_b.result (ap (λ q. rest_of rules_b g.row.M q) in_a.1) (c.close_b.ensures.between a on_a)
          c.stop_of-2.ensures;
      c = stop-is c.args.stopped_by.now.c c.close_c.result (ap (λ q. rest_of rules_c g.row.C q) in_b.2) (c.close_c.ensures.between b on_b)
          c.stop_of-3.ensures;
      d = stop-is c.args.stopped_by.now.d c.close_d.result (ap (λ q. rest_of rules_d g.row.M q) in_c.3) (c.close_d.ensures.between c' on_c)
          c.stop_of-4.ensures;
      e = stop-is c.args.stopped_by.now.e c.close_e.result (ap (λ q. rest_of rules_e g.row.C q) in_d.4) (c.close_e.ensures.between d on_d)
          c.stop_of-5.ensures;
    }))))
