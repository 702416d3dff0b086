use Rattle.tl_ring.proofs.Names.{refl, the_row}
use Rattle.tl_ring.proofs.Answered.{on_ok, on_err}
use denote.Param.{layout, param, number, copied}
use Rattle.tl_ring.proofs.FieldSizes.{part_small}
use Rattle.tl_ring.proofs.PipeSteps.{stands_offered}
use Rattle.tl_ring.proofs.pipe.SyncPipe.offer.Goals as goal

pub offer-requires : goal.offer-requires
offer-requires g c =
    let ready = rw (← c.self.view_is) at c.requires.ready in
    let row = layout (the_row (param 0 g.row.K) (param 1 (number g.row.W)) (param 2 (number g.row.V)) (param 3 g.row.A) (copied 4 g.row.K-Head)
    g.K.Channel g.K.Head.PartialEq g.K.Head.Default g.A.Allocator) in
    (part_small row 0 9223372036854775808 c.requires-raw.1.1.1.1.1.0, (c.requires-raw.1.1.1.1.1.1.0, (c.requires.near, c.requires.far, ready)))

pub returns : goal.returns
returns g c =
    let ready = rw (← c.self.view_is) at c.requires.ready in
    rw (← c.self.view_is) (record {
      admitted = λ x h. c.offer.ensures.admitted x.accepted x.homes _ h.outbox;
      accepted = λ x h. on_ok c.offer.result (λ answered sent. stands_offered g.K.Channel.rules g.met.K.Channel.partial_masked _ x c.args.beat
          c.args.home c.offer.new.self ready.0 ready.1 c.offer.ensures.still sent h)
          (c.offer.ensures.accepted x.accepted x.homes _ h.outbox);
      first_fault = λ x h. c.offer.ensures.first_fault x.accepted x.homes _ h.outbox;
      refused = on_err c.offer.result (λ same. rw same refl) c.offer.ensures.refused;
    })
