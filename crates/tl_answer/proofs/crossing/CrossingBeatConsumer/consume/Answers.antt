use Rattle.tl_answer.proofs.Crossings.{crosses-consumed, crosses-on}
use Rattle.tl_answer.proofs.crossing.CrossingBeatConsumer.consume.Goals as goal

pub returns-clause-on : goal.returns-clause-on
returns-clause-on g c = λ version discarded x.
    let went = c.advance.ensures in
    crosses-on c.advance.result version discarded c.args.held.now c.args.self.now _ went.counts went.discarded went.held went.same went.on x

pub returns-clause-consumed : goal.returns-clause-consumed
returns-clause-consumed g c =
    let went = c.advance.ensures in crosses-consumed c.advance.result c.args.held.now c.args.self.now _ went.stuck went.going went.waiting
