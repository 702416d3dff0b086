use Rattle.tl_answer.proofs.Names.{ReadsAnswer, subst, sym, unread_of, ◌∙◌}
use Rattle.tl_answer.proofs.Writing.{no-check}
use Rattle.tl_answer.proofs.text.answer_by.Goals as goal

pub returns : goal.returns
returns g c =
    subst (λ check. ReadsAnswer (unread_of c.args.input.now (g.R.Read.remaining c.args.reader.now))
    (g.R.Read.remaining c.answer_by_threads.new.reader) check c.answer_by_threads.new.input c.answer_by_threads.result)
    (sym (no-check c.args.order.now (sym c.is_sync.ensures ∙ c.if-is_sync.false))) c.answer_by_threads.ensures
