use Rattle.tl_answer.proofs.Names.{CanJudge, HasJudged}
use Rattle.tl_answer.proofs.Consuming.{can-judge, counted-on, goes-on}
use Rattle.tl_answer.proofs.check_input.JudgeBeatConsumerAnswerParts.consume.Goals as goal

pub returns-clause-on : goal.returns-clause-on
returns-clause-on g c = λ version discarded h rest more went grown few.
    let s = c.args.held.now in
    let was = c.args.self.now in
    let judge = c.advance.new.self in
    let counts = c.advance.result in
    let judged = c.advance.ensures in
    goes-on (CanJudge was) (CanJudge judge) (λ beats. HasJudged beats judge) (λ beats. HasJudged beats was) discarded s rest
    more was.discarded counts judge.discarded
    judged.counts judged.discarded went grown
    (can-judge judge _ rest more (counted-on discarded s was.discarded counts judge.discarded judged.counts judged.discarded h.counted) few grown (judged.held rest went))
    judged.judged h

pub returns-clause-consumed : goal.returns-clause-consumed
returns-clause-consumed g c =
    let judged = c.advance.ensures in record { stuck = judged.stuck; going = judged.going; waiting = judged.waiting }
