use Rattle.std.proofs.Common.{sym, ◌∙◌}
use Rattle.tl_settle.proofs.Answering.{answers_request, home_of_request}
use Rattle.tl_settle.proofs.books.ask_for_home.Goals as goal

pub returns-clause-home : goal.returns-clause-home
returns-clause-home g c = λ ms h begins.
    let q = c.args.head.now in
    let other = sym c.is_release_ack.ensures ∙ c.if-is_release_ack.false in
    let is = sym (h.each q.source) ∙ sym c.get.ensures ∙ c.in-Some.is in
    (answers_request ms q other c.in-Some.request is c.if-request-head.false, home_of_request ms q other c.in-Some.request is)
