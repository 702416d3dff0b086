use Rattle.tl_ring.proofs.Names.{◌≤◌, ◌≡◌, ◌++◌, ◌-◌, ℕ, length, take, ap, sym, subst, ◌∙◌, arith, length-take, All, All-append, IsLawfulBeat, STAGE_CAPACITY}
use Rattle.std.proofs.lemmas.List.{length-take-le}
use Rattle.tl_ring.specs.Ends.{taking_of}
use Rattle.tl_ring.proofs.EndSteps.{fetched_of, takes_fetched, least_moved}
use Rattle.tl_ring.proofs.Fronts.{all_front, front_of, front_size}
use Rattle.tl_ring.proofs.Times.{all_popped, items_length, seen_items}
use denote.Memory.{lone}
use denote.Param.{layout, param, number, copied}
use Rattle.tl_ring.specs.contracts.inbox.Inbox as inbox
use Rattle.tl_ring.specs.contracts.halves.RingReader as intake
use Rattle.tl_ring.proofs.FieldSizes.{part_small, beat_in_queue}
use Rattle.tl_ring.proofs.halves.receive.Goals as goal

pub overflow_sub-room : goal.overflow_sub-room
overflow_sub-room g c = c.len-room.ensures.most

pub whole_as_front-pop_stamped : goal.whole_as_front-pop_stamped
whole_as_front-pop_stamped g c = (
  omega arith,
  (part_small (layout (intake.the_row (param 0 g.row.K) (param 1 (number g.row.V)) (param 2 g.row.A) (copied 3 g.row.K-Head) g.K.Channel
      g.K.Head.Clone g.K.Head.Eq g.K.Head.PartialEq g.K.Head.Default g.A.Allocator)) 1 9223372036854775808 c.requires-raw.1.1.1.1.0),
)

pub shared_whole_as_front-append : goal.shared_whole_as_front-append
shared_whole_as_front-append g c =
    let p = c.pop_stamped-count in
    let inside : p.result ≤ length p.new.slice = omega (arith, p.auto.slice, p.ensures.count) in
    let size = p.auto.slice ∙ length-take-le (STAGE_CAPACITY - c.len-room.result) _ (omega arith) in (
      omega (arith, inside, size),
      (part_small (layout (intake.the_row (param 0 g.row.K) (param 1 (number g.row.V)) (param 2 g.row.A) (copied 3 g.row.K-Head) g.K.Channel
          g.K.Head.Clone g.K.Head.Eq g.K.Head.PartialEq g.K.Head.Default g.A.Allocator)) 1 9223372036854775808 c.requires-raw.1.1.1.1.0),
    )

pub append-requires-room-T-Clone : goal.append-requires-room-T-Clone
append-requires-room-T-Clone g c κs within = beat_in_queue (lone g.row.K-Head.mir) (layout g.row.K-Head) g.row.V 9223372036854775808
    (part_small (layout (inbox.the_row (param 0 g.row.K) (param 1 (number g.row.V)) (copied 2 g.row.K-Head) g.K.Channel g.K.Head.PartialEq
    g.K.Head.Default)) 0 9223372036854775808 c.requires-raw.1.1.1.1.1)

pub append-requires-room-T-Default : goal.append-requires-room-T-Default
append-requires-room-T-Default g c κs within = append-requires-room-T-Clone g c κs within

-- what was popped is no more than the inbox has room for
pub append-requires : goal.append-requires
append-requires g c =
    let p = c.pop_stamped-count in
    let held : c.len-room.result ≡ length c.inbox.inside.queue = c.len-room.ensures.count ∙ ap length (sym c.inbox.view_is) in
    let inside : p.result ≤ length p.new.slice = omega (arith, p.auto.slice, p.ensures.count) in
    let size = p.auto.slice ∙ length-take-le (STAGE_CAPACITY - c.len-room.result) _ (omega arith) in (
      part_small (layout (inbox.the_row (param 0 g.row.K) (param 1 (number g.row.V)) (copied 2 g.row.K-Head) g.K.Channel g.K.Head.PartialEq
          g.K.Head.Default)) 0 9223372036854775808 c.requires-raw.1.1.1.1.1,
      simp length-take (omega (arith, inside, size, held, c.len-room.ensures.most)),
    )

-- and lawful by the ring's protocol
pub invariant_of-inbox : goal.invariant_of-inbox
invariant_of-inbox g c =
    let p = c.pop_stamped-count in
    let inside : p.result ≤ length p.new.slice = omega (arith, p.auto.slice, p.ensures.count) in
    rw c.append.ensures (All-append (λ b. IsLawfulBeat g.K.Channel.rules b) _ _ c.inbox.invariant
    (all_front (λ b. IsLawfulBeat g.K.Channel.rules b) _ _ _ inside (subst (λ bs. All (λ b. IsLawfulBeat g.K.Channel.rules b) bs) p.ensures.popped.are
    (all_popped (λ b. IsLawfulBeat g.K.Channel.rules b) _ _ p.ensures.popped.allowed))))

-- what was popped lies in the part that was lent, which is as long as the room
pub returns : goal.returns
returns g c =
    let p = c.pop_stamped-count in
    let room : ℕ = STAGE_CAPACITY - c.len-room.result in
    let inside : p.result ≤ length p.new.slice = omega (arith, p.auto.slice, p.ensures.count) in
    let whole = length-take-le room c.args.intake.now.passing (omega arith) in
    let size = p.auto.slice ∙ whole in
    let t = taking_of c.args.inbox.now c.args.intake.now.half in
    let fetched = fetched_of _ t p.new.consumer c.append.new.self (take p.result p.new.slice) p.result p.ensures.ring
    (front_size p.result p.new.slice inside)
    (c.append.ensures ∙ front_of _ p.result p.new.slice _ inside ∙ ap (λ q. q ++ take p.result p.new.slice) c.inbox.view_is) p.ensures.popped in
    record {
      least = rw (← c.len-room.ensures.count) (least_moved _ _ _ p.result room (seen_items _ _ _ _ p.ensures.popped.are p.ensures.popped.seen)
          (front_size p.result p.new.slice inside)
          (λ short. items_length _ ∙ p.ensures.most (omega (arith, short, whole))));
      most = omega (arith, inside, size, c.len-room.ensures.count);
      fetched = fetched;
      takes = λ taken takes. takes_fetched t _ p.result fetched taken takes;
    }
