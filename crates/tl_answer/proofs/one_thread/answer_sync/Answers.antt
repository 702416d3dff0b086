use Rattle.tl_answer.proofs.Names.{lit<}
use Rattle.tl_answer.proofs.Whole.{slice_answered, slice_fresh, slice_refused}
use Rattle.tl_answer.proofs.one_thread.answer_sync.Goals as goal

pub answer_input-requires : goal.answer_input-requires
answer_input-requires c = (slice_fresh _ _ c.in-Ok.input c.in-Ok.ensures.ok c.in-Ok.ensures.first, lit< tt, lit< tt)

pub returns-in-Ok-answer_input-clause-ok : goal.returns-in-Ok-answer_input-clause-ok
returns-in-Ok-answer_input-clause-ok c =
    slice_answered _ _ c.in-Ok.input c.in-Ok.ensures.ok c.answer_input.new.input _ c.args.check c.in-Ok-answer_input.parts c.in-Ok-answer_input.ensures
    c.joined.result c.joined.ensures.text c.joined.ensures.done

pub returns-in-Err-Trace : goal.returns-in-Err-Trace
returns-in-Err-Trace c =
    let fault = c.in-Err-Trace in
    record { ok = tt; err = slice_refused _ _ c.in-Ok.input c.in-Ok.ensures.ok c.answer_input.new.input _ fault.fault _ fault.field-0-is fault.ensures }
