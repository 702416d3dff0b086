use Rattle.std.proofs.Common.{rules, sym, subst}
use Rattle.std.proofs.KnownBytes.{Keeps-refl}
use Rattle.tl_answer.proofs.Headers.{no_header}
use Rattle.tl_explain.specs.Explained.{IsUntold, is_page}
use Rattle.tl_explain.proofs.explain.explanation_of.Goals as goal

pub returns-in-Err : goal.returns-in-Err
returns-in-Err g c =
    let refused = c.in-Err.ensures.err in
    subst (IsUntold (is_page c.args.look.now.format) c.args.text.now _ _) (sym refused.0)
    ((search rules, no_header c.args.text.now refused.1), Keeps-refl _)
