use Rattle.std.proofs.Common.{◌∷◌, [], ap, codes, subst}
use Rattle.std.proofs.lemmas.Result.{IfOk-weaker}
use Rattle.clap.specs.Words.{AddsArg, AddsInTurn, App, new_app}
use Rattle.tl_words.specs.CommandLines.{run_shape}
use Rattle.tl_words.proofs.Options.{all_added, with_about}
use Rattle.tl_words.proofs.run_command.Goals as goal

pub returns : goal.returns
returns c =
    let about = c.about.result in
    let bare = with_about c.new.result about _ _ c.about.ensures c.new.ensures.app c.new.ensures.local in
    let all = c.number_option.result ∷ c.number_option-2.result ∷ c.sync_option.result ∷ c.file_argument.result ∷ [] in
    IfOk-weaker c.args-2.result _ _ (λ made is.
    let adds = subst (λ list. AddsInTurn AddsArg about list made) c.in_ok-arguments.ensures.items is in
    let whole = all_added about made all (new_app (codes "run")) run_shape.rules adds bare
    (c.number_option.ensures, (c.number_option-2.ensures, (c.sync_option.ensures, (c.file_argument.ensures, tt)))) in
    (ap (λ (p : App). p.top) whole.0, whole.1)) c.args-2.ensures
