use Rattle.tl_check.proofs.Names.{◌∙◌, are-part}
use Rattle.tl_parts.proofs.Channels.{five-same}
use Rattle.tl_check.proofs.judge.Judge.end.Goals as goal

pub returns : goal.returns
returns g c = λ near end was.
    let ends = c.go_through-stops.ensures.stopped near end was in
    let has = c.go_through-stops.ensures.judged near (are-part c.args.self.now.discarded c.args.held.now near end) was in
    five-same (c.verdict.ensures g.row.M near.a has.a ∙ ends.a) (c.verdict-2.ensures g.row.C near.b has.b ∙ ends.b)
    (c.verdict-3.ensures g.row.M near.c has.c ∙ ends.c) (c.verdict-4.ensures g.row.C near.d has.d ∙ ends.d)
    (c.verdict-5.ensures g.row.M near.e has.e ∙ ends.e)
