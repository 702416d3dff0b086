use Rattle.tl_check.proofs.Names.{sym, ap, ◌∙◌, take, left, verdict_of}
use Rattle.tl_check.proofs.Passing.{done, cut}
use Rattle.tl_check.proofs.progress.Progress.verdict.Goals as goal

pub returns-in-None : goal.returns-in-None
returns-in-None g c = λ v bs come.
    let self = c.args.self.now in
    done g.K.Channel.rules bs self.tracker self.at self.far come (sym c.in_burst.ensures.burst ∙ c.in-None.is) ∙
    ap (λ o. verdict_of self.at self.far (left g.K.Channel.rules g.row.W (take self.at bs)) o) (sym c.in_default.is)

pub returns-in-Some-in_burst : goal.returns-in-Some-in_burst
returns-in-Some-in_burst g c = λ v bs come.
    let self = c.args.self.now in
    cut g.K.Channel.rules bs self.tracker self.at self.far come c.in-Some-in_burst.field-0 (sym c.in_burst.ensures.burst ∙ c.in-Some-in_burst.is) ∙
    ap (λ o. verdict_of self.at self.far (left g.K.Channel.rules g.row.W (take self.at bs)) o) (sym c.in_default.is)
