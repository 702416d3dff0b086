use Rattle.std.proofs.Common.{sym, ap, ◌∙◌}
use Rattle.tl_c_beats.specs.Receipts.{drained_answer, manager_took}
use Rattle.tl_c_beats.specs.declared.totals.TheConstants.{CLIENT_FINISHED}
use Rattle.tl_c_beats.proofs.Receipts.{manager_took_them}
use Rattle.tl_c_beats.proofs.totals.drained_manager.Goals as goal

pub returns-clause-drained : goal.returns-clause-drained
returns-clause-drained g c =
    let same = c.manager_took-as_many.ensures ∙ ap (λ n. manager_took n c.args.receipt.now) c.totals.ensures.totals in
    c.drained_answer.ensures.answer ∙ ap (drained_answer c.args.bridge CLIENT_FINISHED c.args.receipt.now) same

pub returns-clause-taken : goal.returns-clause-taken
returns-clause-taken g c = λ y h zero.
    manager_took_them c.totals.result c.args.receipt.now y (sym c.manager_took-as_many.ensures ∙ c.drained_answer.ensures.as_many zero)
    (c.totals.ensures.exact y h)
