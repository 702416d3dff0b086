use Rattle.tl_burst.proofs.Names.{◌<◌, ◌+◌, ◌^◌, ℕ, if◌then◌else◌, None, Some, sym, ap, subst, ◌∙◌, arith, IsOpen, IsHeldIn}
use Rattle.tl_burst.proofs.Holding.{goes-on, begins}
use Rattle.tl_burst.proofs.Steps.{burst-step, index-small, place-opens}
use Rattle.tl_burst.proofs.tracker.Tracker.advance.Goals as goal

next-fits : (n : ℕ) → n < 4096 → n + 1 < 2 ^ 32
next-fits n lt = omega arith

pub overflow_add-count : goal.overflow_add-count
overflow_add-count g c =
    let small : c.args.place.index < 4096 = index-small g.K.Channel.rules g.row.W c.args.self.now c.args.place c.requires.place c.requires.width
    (g.met.K.Channel.small c.args.place.head c.requires.place.lawful) in
    record { fits = next-fits c.args.place.index small }

pub returns-then-place-clause-stands : goal.returns-then-place-clause-stands
returns-then-place-clause-stands g c = λ bs b before same.
    sym (ap (λ last. if last then None else Some (c.args.place.head, c.args.place.index + 1)) c.if-place.true) ∙
    burst-step g.K.Channel.rules g.row.W c.args.self.now c.args.place c.requires.place bs b before same

pub returns-in-Some : goal.returns-in-Some
returns-in-Some g c =
    let burst = goes-on g.K.Channel.rules g.row.W c.args.self.now c.args.place c.requires.place c.if-place.false
    c.in-Some.field-0-0 c.in-Some.count (sym c.self.view_is ∙ c.in-Some.is) in
    record {
      burst = burst;
      stands = λ bs b before same. burst ∙ burst-step g.K.Channel.rules g.row.W c.args.self.now c.args.place c.requires.place bs b before same;
    }

pub returns-in-None : goal.returns-in-None
returns-in-None g c =
    let burst = begins g.K.Channel.rules g.row.W c.args.self.now c.args.place c.requires.place c.if-place.false (sym c.self.view_is ∙ c.in-None.is) in
    record {
      burst = burst;
      stands = λ bs b before same. burst ∙ burst-step g.K.Channel.rules g.row.W c.args.self.now c.args.place c.requires.place bs b before same;
    }

pub invariant_of-self-in-Some : goal.invariant_of-self-in-Some
invariant_of-self-in-Some g c = (
  subst (λ burst. IsOpen g.K.Channel.rules g.row.W burst)
      (sym (goes-on g.K.Channel.rules g.row.W c.args.self.now c.args.place c.requires.place c.if-place.false c.in-Some.field-0-0 c.in-Some.count
      (sym c.self.view_is ∙ c.in-Some.is))) (place-opens g.K.Channel.rules g.row.W c.args.self.now c.args.place c.requires.place),
  subst (λ burst. IsHeldIn g.K.Channel.rules g.row.W burst c.self.inside.held) c.in-Some.is c.self.invariant.1,
)

pub invariant_of-self-in-None : goal.invariant_of-self-in-None
invariant_of-self-in-None g c = (
  subst (λ burst. IsOpen g.K.Channel.rules g.row.W burst)
      (sym (begins g.K.Channel.rules g.row.W c.args.self.now c.args.place c.requires.place c.if-place.false (sym c.self.view_is ∙ c.in-None.is)))
      (place-opens g.K.Channel.rules g.row.W c.args.self.now c.args.place c.requires.place),
  c.held_by-self-inside.ensures,
)
