use Rattle.std.proofs.Common.{Ok, subst}
use Rattle.std.proofs.lemmas.Result.{IfOk-weaker}
use Rattle.clap.specs.Words.{AddsInTurn, AddsSubcommand}
use Rattle.tl_words.proofs.Options.{both_ok, both_put, program_of_parts}
use Rattle.tl_words.proofs.command.Goals as goal

pub returns-in-Ok : goal.returns-in-Ok
returns-in-Ok c =
    let top = c.bare_command.result in
    let are = both_ok _ _ c.put-run.result c.put-check.result (Ok tt) c.in-Ok.ensures c.put-run.ensures c.put-check.ensures in
    let put = both_put c.run_command.result c.check_command.result c.new-below.result.items _ _ c.new-below.ensures.items
    are.0 are.1 c.run_command.ensures c.check_command.ensures in
    IfOk-weaker c.subcommands.result _ _ (λ made added. program_of_parts top put.0 put.1 made c.bare_command.ensures put.3 put.4
    (subst (λ xs. AddsInTurn AddsSubcommand top xs made) put.2 added)) c.subcommands.ensures
