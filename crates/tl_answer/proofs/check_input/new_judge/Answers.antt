use Rattle.tl_answer.proofs.Names.{CanJudge, HasJudged}
use Rattle.tl_answer.proofs.Consuming.{new-goes, short-lists}
use Rattle.tl_answer.proofs.check_input.new_judge.Goals as goal

pub returns : goal.returns
returns g c = λ s few.
    let judge = c.new.result in
    let new = c.new.ensures in
    new-goes (CanJudge judge) (λ beats. HasJudged beats judge) judge.discarded new.none s (new.begins s (short-lists s few)) new.judged
