use Rattle.std.proofs.Common.{sym, ap, ◌∙◌}
use Rattle.tl_c_beats.specs.Receipts.{drained_answer, client_took}
use Rattle.tl_c_beats.specs.declared.totals.TheConstants.{MANAGER_FINISHED}
use Rattle.tl_c_beats.proofs.Receipts.{client_took_them}
use Rattle.tl_c_beats.proofs.totals.drained_client.Goals as goal

pub returns-clause-drained : goal.returns-clause-drained
returns-clause-drained g c =
    let same = c.client_took-as_many.ensures ∙ ap (λ n. client_took n c.args.receipt.now) c.totals.ensures.totals in
    c.drained_answer.ensures.answer ∙ ap (drained_answer c.args.bridge MANAGER_FINISHED c.args.receipt.now) same

pub returns-clause-taken : goal.returns-clause-taken
returns-clause-taken g c = λ x h zero.
    client_took_them c.totals.result c.args.receipt.now x (sym c.client_took-as_many.ensures ∙ c.drained_answer.ensures.as_many zero)
    (c.totals.ensures.exact x h)
