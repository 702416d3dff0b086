use Rattle.tl_answer.proofs.Names.{form_a, form_b, form_c, form_d, form_e, far_header, report}
use Rattle.tl_trace.specs.Lines.{beats_text}
use Rattle.tl_answer.proofs.Answering.{with-report}
use Rattle.tl_answer.proofs.FarTexts.{all-spelled}
use Rattle.tl_answer.proofs.far_text.FarTexts.into_answer.Goals as goal

pub returns-clause-text : goal.returns-clause-text
returns-clause-text c = λ C M far h.
    let version = c.args.self.version in
    let wrote = c.in_ok-write_reports.ensures in
    all-spelled (far_header version C M)
    (beats_text (form_a version) M far.a) (beats_text (form_b version) C far.b) (beats_text (form_c version) M far.c)
    (beats_text (form_d version) C far.d) (beats_text (form_e version) M far.e) (report c.args.verdicts.now)
    _ _ _ _ _ _ h.a h.b h.c h.d h.e (with-report c.args.verdicts.now wrote.five _ _ wrote.text)
