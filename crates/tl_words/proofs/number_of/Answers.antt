use Rattle.std.proofs.Common.{◌∙◌, refl}
use Rattle.clap.specs.Words.{found_of, rows_of}
use Rattle.clap.proofs.WalkLemmas.{first_value-rows}
use Rattle.tl_words.proofs.Options.{number_of_word}
use Rattle.tl_words.proofs.number_of.Goals as goal

pub returns-in-Ok-clause-said : goal.returns-in-Ok-clause-said
returns-in-Ok-clause-said c =
    number_of_word c.get_str.result _ c.unwrap_or-word.result c.args.name.now (rows_of (found_of c.args.matches.now)) c.in-Ok.number c.parse.result c.unwrap_or-word.ensures refl
    c.parse.ensures.value.0 c.in-Ok.is (c.get_str.ensures ∙ first_value-rows (found_of c.args.matches.now) c.args.name.now)
