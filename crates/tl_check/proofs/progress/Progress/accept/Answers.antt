use Rattle.tl_check.proofs.Names.{refl, sym, take, arith}
use Rattle.tl_check.proofs.Passing.{come-more}
use Rattle.tl_check.proofs.progress.Progress.accept.Goals as goal

pub overflow_add-self : goal.overflow_add-self
overflow_add-self g c = omega (arith, c.requires.3)

pub overflow_add-self-2 : goal.overflow_add-self-2
overflow_add-self-2 g c = omega (arith, c.requires.3, c.requires.4, c.far_beats_between-given.ensures.few)

pub returns-clause-at : goal.returns-clause-at
returns-clause-at g c = refl

pub returns-clause-far : goal.returns-clause-far
returns-clause-far g c = refl

pub returns-clause-come : goal.returns-clause-come
returns-clause-come g c = λ bs b come next head fine handed.
    let self = c.args.self.now in
    come-more g.K.Channel.rules bs self.tracker self.at self.far come b next c.args.place c.far_beats_between-given.result c.advance.new.self
    c.requires.0 c.requires.1 head fine handed c.requires.2 c.far_beats_between-given.ensures.gives
    (c.advance.ensures.stands (take self.at bs) b come.burst_is (sym head))

pub returns-clause-few_far : goal.returns-clause-few_far
returns-clause-few_far g c = omega (arith, c.requires.4, c.far_beats_between-given.ensures.few)

pub far_beats_between-given-requires-clause-near : goal.far_beats_between-given-requires-clause-near
far_beats_between-given-requires-clause-near g c = c.requires.0

pub far_beats_between-given-requires-clause-far : goal.far_beats_between-given-requires-clause-far
far_beats_between-given-requires-clause-far g c = c.requires.1

pub far_beats_between-given-requires-clause-small : goal.far_beats_between-given-requires-clause-small
far_beats_between-given-requires-clause-small g c = g.met.K.Channel.small c.args.place.head c.requires.2.lawful
