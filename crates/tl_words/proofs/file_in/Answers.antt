use Rattle.std.proofs.Common.{◌∙◌, codes}
use Rattle.clap.specs.Words.{found_of}
use Rattle.clap.proofs.WalkLemmas.{first_value-rows}
use Rattle.tl_words.proofs.Options.{file_by_rows}
use Rattle.tl_words.proofs.file_in.Goals as goal

pub returns-in-Some : goal.returns-in-Some
returns-in-Some c =
    c.get_str.ensures ∙ first_value-rows (found_of c.in-Some.inner.now) (codes "file") ∙ file_by_rows _ _ c.in-Some.ensures.rows
