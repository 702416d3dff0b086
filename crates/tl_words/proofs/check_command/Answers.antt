use Rattle.std.proofs.Common.{ap}
use Rattle.std.proofs.lemmas.Result.{IfOk-weaker}
use Rattle.clap.specs.Words.{App}
use Rattle.tl_words.proofs.Options.{added, with_about}
use Rattle.tl_words.proofs.check_command.Goals as goal

pub returns : goal.returns
returns c =
    let bare = with_about c.new.result c.about-bare.result _ _ c.about-bare.ensures c.new.ensures.app c.new.ensures.local in
    IfOk-weaker c.arg.result _ _ (λ made is. let whole = added _ made _ _ _ is bare c.file_argument.ensures in
    (ap (λ (p : App). p.top) whole.0, whole.1)) c.arg.ensures
