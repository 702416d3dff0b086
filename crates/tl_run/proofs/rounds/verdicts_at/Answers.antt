use Rattle.tl_run.proofs.Names.{ap, ◌∙◌}
use Rattle.tl_run.proofs.EndsIn.{verdicts-are, verdict-is}
use Rattle.tl_parts.proofs.Channels.{five-same}
use Rattle.tl_run.proofs.rounds.verdicts_at.Goals as goal

pub returns : goal.returns
returns c = λ C M near far s rounds cw mw same h.
    five-same (verdict-is c.args.stops.now.a c.args.at.now.a (ap (λ q. q.a) same) c.verdict.ensures)
    (verdict-is c.args.stops.now.b c.args.at.now.b (ap (λ q. q.b) same) c.verdict-2.ensures)
    (verdict-is c.args.stops.now.c c.args.at.now.c (ap (λ q. q.c) same) c.verdict-3.ensures)
    (verdict-is c.args.stops.now.d c.args.at.now.d (ap (λ q. q.d) same) c.verdict-4.ensures)
    (verdict-is c.args.stops.now.e c.args.at.now.e (ap (λ q. q.e) same) c.verdict-5.ensures) ∙
    verdicts-are cw mw near c.args.at.now far s c.args.stops.now rounds h
