use Rattle.tl_answer.proofs.Names.{IfOk, ◌≡◌, subst, refl, list_all, near_beats, is_done, spelled}
use Rattle.tl_answer.proofs.Answering.{of-run}
use Rattle.tl_answer.proofs.threads.threads_answer_of.Goals as goal

pub returns-in-Err-clause-err : goal.returns-in-Err-clause-err
returns-in-Err-clause-err g c = refl

pub returns-clause-text : goal.returns-clause-text
returns-clause-text g c =
    subst (λ text. IfOk c.parts_of-answer.result (λ made. spelled made ≡ text))
    (of-run c.args.version (near_beats c.args.script) c.in-Ok.outcome c.in-Ok.ensures.ok) c.parts_of-answer.ensures.text

pub returns-clause-done : goal.returns-clause-done
returns-clause-done g c =
    subst (λ vs. IfOk c.parts_of-answer.result (λ made. made.all_done ≡ list_all is_done vs)) c.in-Ok.ensures.ok.verdicts_are
    c.parts_of-answer.ensures.done
