use Rattle.tl_ring.proofs.Names.{refl, take, drop, append_assoc, take-append-drop, All-drop, IsLawfulBeat}
use denote.Memory.{lone}
use denote.Param.{layout, param, number, copied}
use Rattle.tl_ring.specs.contracts.inbox.Inbox.{the_row}
use Rattle.tl_ring.proofs.Fronts.{first_holds}
use Rattle.tl_ring.proofs.FieldSizes.{part_small, beat_in_queue}
use Rattle.tl_ring.proofs.inbox.Inbox.take.Goals as goal

pub pop_front-requires : goal.pop_front-requires
pop_front-requires g c = part_small (layout (the_row (param 0 g.row.K) (param 1 (number g.row.V)) (copied 2 g.row.K-Head) g.K.Channel
    g.K.Head.PartialEq g.K.Head.Default)) 0 9223372036854775808 c.requires-raw.1.1.1.0

pub pop_front-requires-room-T-Clone : goal.pop_front-requires-room-T-Clone
pop_front-requires-room-T-Clone g c κs within =
    beat_in_queue (lone g.row.K-Head.mir) (layout g.row.K-Head) g.row.V 9223372036854775808
    (part_small (layout (the_row (param 0 g.row.K) (param 1 (number g.row.V)) (copied 2 g.row.K-Head) g.K.Channel g.K.Head.PartialEq
    g.K.Head.Default)) 0 9223372036854775808 c.requires-raw.1.1.1.0)

pub invariant_of-self : goal.invariant_of-self
invariant_of-self g c = rw c.pop_front.ensures.rest (All-drop (λ b. IsLawfulBeat g.K.Channel.rules b) 1 _ c.self.invariant)

pub returns : goal.returns
returns g c =
    let p = c.pop_front.ensures in
    rw (← c.self.view_is) (record {
      beat = p.value;
      lawful = rw p.value (first_holds (λ b. IsLawfulBeat g.K.Channel.rules b) c.self.inside.queue c.self.invariant);
      rest = rw p.rest refl;
      taken = λ received taken h.
          let moved = append_assoc taken (take 1 c.self.inside.queue) (drop 1 c.self.inside.queue) in
          rw (p.rest, moved, take-append-drop) h;
    })
