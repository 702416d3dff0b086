use Rattle.tl_words.proofs.Options.{bare_of_new}
use Rattle.tl_words.proofs.bare_command.Goals as goal

pub returns : goal.returns
returns c =
    bare_of_new c.new.result c.about.result c.version.result c.subcommand_required.result _ _
    c.about.ensures c.version.ensures c.subcommand_required.ensures c.new.ensures.app
