use Rattle.std.proofs.Common.{subst}
use Rattle.std.specs.Io.KnownBytes.{Appends}
use Rattle.tl_explain.proofs.Writing.{explained}
use Rattle.tl_explain.proofs.explain.explain_to.Goals as goal

pub returns-clause-ok : goal.returns-clause-ok
returns-clause-ok g c =
    let answer = c.in_ok-telling.telling.answer in
    explained c.args.text.now _ _ _ answer.text.items answer.all_done c.in_ok-telling.ensures.0 c.in_ok-telling.ensures.1
    (subst (Appends _ _) c.deref.ensures.value c.in_ok-write_all.ensures.all)
