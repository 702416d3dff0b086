use Rattle.tl_answer.proofs.Names.{Ok, four_ok}
use Rattle.tl_answer.proofs.Grown.{grown-ok}
use Rattle.tl_answer.proofs.FarTexts.{four-put}
use Rattle.tl_answer.proofs.parts.AnswerParts.joined.Goals as goal

pub returns-clause-text : goal.returns-clause-text
returns-clause-text c =
    four_ok c.extend_from_slice-b.result c.extend_from_slice-c.result c.extend_from_slice-d.result c.extend_from_slice-e.result
    c.and.result c.and-2.result (Ok tt) c.and.ensures c.and-2.ensures c.in_ok-and.ensures
    (four-put c.args.self.a.items c.args.self.b.items c.args.self.c.items c.args.self.d.items c.args.self.e.items _ _ _ _ _ _ _ _
    c.deref.ensures.value c.deref-2.ensures.value c.deref-3.ensures.value c.deref-4.ensures.value)
    (grown-ok c.extend_from_slice-b.result _ _ _ c.extend_from_slice-b.ensures.items)
    (grown-ok c.extend_from_slice-c.result _ _ _ c.extend_from_slice-c.ensures.items)
    (grown-ok c.extend_from_slice-d.result _ _ _ c.extend_from_slice-d.ensures.items)
    (grown-ok c.extend_from_slice-e.result _ _ _ c.extend_from_slice-e.ensures.items)
