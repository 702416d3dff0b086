use Rattle.tl_trace.proofs.OneText.{text_only, text_told}
use Rattle.tl_trace.proofs.laws.one_text.Goals as goal

pub returns : goal.returns
returns c =
    λ version client manager lines text trace. (text_only version client manager lines text, text_told version client manager lines text trace)
