use Rattle.tl_trace.proofs.Names.{◌≡◌, Some, rules, sym, subst, MatchResult, body_fault, IsReadLine}
use Rattle.tl_trace.proofs.Ids.{other_version}
use Rattle.tl_trace.proofs.reader.read_line.Goals as goal

pub returns-in-1 : goal.returns-in-1
returns-in-1 c =
    subst (λ v. MatchResult c.read_line_in.result (IsReadLine v c.args.client c.args.manager c.args.text.now)
    (λ kind. body_fault v c.args.client c.args.manager c.args.text.now ≡ Some kind)) (sym c.in-1.is) c.read_line_in.ensures

pub returns-in_default : goal.returns-in_default
returns-in_default c =
    subst
    (λ v. MatchResult c.read_line_in-in_default.result (IsReadLine v c.args.client c.args.manager c.args.text.now)
    (λ kind. body_fault v c.args.client c.args.manager c.args.text.now ≡ Some kind))
    (sym (other_version c.args.version c.requires.version (search rules))) c.read_line_in-in_default.ensures
