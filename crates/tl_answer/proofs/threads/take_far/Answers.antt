use Rattle.tl_answer.proofs.Names.{subst, on_ok_weaker, Beats, HasLines}
use Rattle.tl_run.specs.Arrivals.{no_beats}
use Rattle.tl_answer.proofs.FarTexts.{taken-of}
use Rattle.tl_answer.proofs.threads.take_far.Goals as goal

pub returns-clause-lines : goal.returns-clause-lines
returns-clause-lines g c =
    let far : Beats g.row.M g.row.C =
    record { a = c.deref.result.now; b = c.deref-2.result.now; c = c.deref-3.result.now; d = c.deref-4.result.now; e = c.deref-5.result.now } in
    on_ok_weaker c.take.result
    (subst (λ q. HasLines c.take.new.self q)
    (taken-of far c.args.outcome.now c.deref.ensures.value c.deref-2.ensures.value c.deref-3.ensures.value c.deref-4.ensures.value
    c.deref-5.ensures.value))
    (c.take.ensures.far no_beats c.requires.2)
