use Rattle.tl_answer.proofs.Names.{Ok, form_a, form_b, form_c, form_d, form_e, far_header, five_ok}
use Rattle.tl_answer.proofs.FarTexts.{lines-on, lines-more}
use Rattle.tl_answer.proofs.far_text.FarTextsFarSink.take.Goals as goal

pub returns-in-Ok-clause-far : goal.returns-in-Ok-clause-far
returns-in-Ok-clause-far g c = λ far h.
    let version = c.args.self.now.version in
    five_ok c.write_far-a.result c.write_far-b.result c.write_far-c.result c.write_far-d.result c.write_far-e.result
    c.and.result c.and-2.result c.and-3.result (Ok tt) c.and.ensures c.and-2.ensures c.and-3.ensures c.in-Ok.ensures
    (λ a b x d e. record {
      a = lines-on (form_a version) g.row.M (far_header version g.row.C g.row.M) _ _ far.a c.args.a.now h.a a;
      b = lines-more (form_b version) g.row.C _ _ far.b c.args.b.now h.b b;
      c = lines-more (form_c version) g.row.M _ _ far.c c.args.c.now h.c x;
      d = lines-more (form_d version) g.row.C _ _ far.d c.args.d.now h.d d;
      e = lines-more (form_e version) g.row.M _ _ far.e c.args.e.now h.e e;
    })
    c.write_far-a.ensures.ok c.write_far-b.ensures.ok c.write_far-c.ensures.ok c.write_far-d.ensures.ok c.write_far-e.ensures.ok
