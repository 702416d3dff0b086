use Rattle.std.proofs.Common.{◌∙◌, ap}
use Rattle.tl_words.specs.CommandLines.{file_of}
use Rattle.tl_words.proofs.command_line_of.Goals as goal

pub returns-in-Ok-order-clause-file : goal.returns-in-Ok-order-clause-file
returns-in-Ok-order-clause-file c = c.file_in-file.ensures ∙ ap file_of c.in-Ok.ensures.called
