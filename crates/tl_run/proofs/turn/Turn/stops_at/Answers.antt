use Rattle.std.proofs.Common.{◌≡◌, Bool, true, false, Option, None, Some}
use Rattle.std.specs.Prelude.{IfSome}
use Rattle.tl_run.proofs.turn.Turn.stops_at.Goals as goal
use Rattle.tl_run.proofs.turn.Turn.stops_at.Goals.{then-self-via-then-self, then-self-via-else-self+then-not-are_empty}

if-any : {A P : Type 0} (r : Option A) → P → IfSome r (λ x. P)
if-any None p = tt
if-any (Some x) p = p

-- nothing is true and false
not-both : (b : Bool) → b ≡ false → b ≡ true → ⊥
not-both true was is = cc (was)
not-both false was is = cc (is)

pub returns-clause-stops : goal.returns-clause-stops
returns-clause-stops c = c.all_stops.ensures.stops

pub returns-clause-rests : goal.returns-clause-rests
returns-clause-rests c = if-any c.all_stops.result (c.are_empty.ensures.0 c.if-not-are_empty.false)

pub returns-clause-none_accepted : goal.returns-clause-none_accepted
returns-clause-none_accepted c = if-any c.all_stops.result (not-both c.args.self.now.accepted c.if-self.false)

pub returns-clause-goes : goal.returns-clause-goes
returns-clause-goes c = λ none still stopped rest. c.all_stops.ensures.goes none stopped

pub returns-then-self-clause-goes : goal.returns-then-self-clause-goes
returns-then-self-clause-goes c = λ none still stopped rest.
    elim c.then-self.branch [
      | then-self-via-then-self w ↦ still w.if-self.true
      | then-self-via-else-self+then-not-are_empty w ↦ not-both w.are_empty.result w.if-not-are_empty.true (w.are_empty.ensures.1 rest)
    ]
