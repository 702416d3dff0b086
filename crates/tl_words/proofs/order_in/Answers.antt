use Rattle.std.proofs.Common.{◌∙◌, rules}
use Rattle.std.proofs.lemmas.Result.{IfOk-weaker}
use Rattle.clap.specs.Words.{subcommand_rows_of}
use Rattle.tl_words.proofs.Options.{name_by_rows, run_by_rows}
use Rattle.tl_words.proofs.order_in.Goals as goal

pub returns-in-Some-clause-said : goal.returns-in-Some-clause-said
returns-in-Some-clause-said c =
    let m = c.args.matches.now in
    IfOk-weaker c.run_order.result _ _ (λ order said. run_by_rows (subcommand_rows_of m) _ order
    (name_by_rows m ∙ c.in-Some.ensures.found.0 (search rules)) c.in-Some.ensures.rows said) c.run_order.ensures.said
