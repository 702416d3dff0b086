use Rattle.std.proofs.Common.{◌∙◌, rules}
use Rattle.clap.specs.Words.{subcommand_rows_of}
use Rattle.tl_words.proofs.Options.{check_by_rows, name_by_rows}
use Rattle.tl_words.proofs.check_order.Goals as goal

pub returns-in-Some-clause-said : goal.returns-in-Some-clause-said
returns-in-Some-clause-said c =
    let m = c.args.matches.now in
    check_by_rows (subcommand_rows_of m) _ (name_by_rows m ∙ c.in-Some.ensures.found.0 (search rules)) c.in-Some.ensures.rows
