use Rattle.std.proofs.Common.{◌∙◌, ap, map, subst}
use Rattle.clap.specs.Kinds.{FailsBy}
use Rattle.std.proofs.lemmas.Result.{IfOk-weaker}
use Rattle.clap.specs.Words.{fault_of, is_simple, is_simple_and_free, subcommand_of}
use Rattle.tl_words.specs.CommandLines.{called_by, faults_in, program}
use Rattle.tl_words.proofs.Options.{none_found, some_found, program_is_free, program_is_simple}
use Rattle.tl_words.proofs.matches_of.Goals as goal

pub returns-in-Ok-clause-called : goal.returns-in-Ok-clause-called
unfolding called_by
returns-in-Ok-clause-called c =
    let found = c.try_get_matches_from in
    let is = c.in-Ok.ensures in
    IfOk-weaker found.result _ _ (λ m h. (h (ap is_simple is ∙ program_is_simple)).1
    ∙ ap (λ a. subcommand_of a (map (λ w. w.now) c.args.words.now)) is) found.ensures.matches

pub returns-in-Ok-clause-taken : goal.returns-in-Ok-clause-taken
unfolding faults_in
returns-in-Ok-clause-taken c =
    let found = c.try_get_matches_from in
    let is = c.in-Ok.ensures in
    none_found (fault_of program (map (λ w. w.now) c.args.words.now)) found.result
    (subst (λ a. FailsBy (fault_of a (map (λ w. w.now) c.args.words.now)) found.result) is
    (found.ensures.kinds (ap is_simple_and_free is ∙ program_is_free)))

pub returns-in-Ok-clause-refused : goal.returns-in-Ok-clause-refused
unfolding faults_in
returns-in-Ok-clause-refused c =
    let found = c.try_get_matches_from in
    let is = c.in-Ok.ensures in
    some_found (fault_of program (map (λ w. w.now) c.args.words.now)) found.result
    (subst (λ a. FailsBy (fault_of a (map (λ w. w.now) c.args.words.now)) found.result) is
    (found.ensures.kinds (ap is_simple_and_free is ∙ program_is_free)))
