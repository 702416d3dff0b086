use Rattle.tl_ring.proofs.Names.{refl, the_row}
use Rattle.tl_ring.proofs.Answered.{on_ok, on_err}
use Rattle.tl_ring.proofs.PipeSteps.{stands_shut}
use denote.Param.{layout, param, number, copied}
use Rattle.tl_ring.proofs.FieldSizes.{part_small}
use Rattle.tl_ring.proofs.pipe.SyncPipe.close.Goals as goal

pub close-requires : goal.close-requires
close-requires g c = part_small (layout (the_row (param 0 g.row.K) (param 1 (number g.row.W)) (param 2 (number g.row.V)) (param 3 g.row.A)
    (copied 4 g.row.K-Head) g.K.Channel g.K.Head.PartialEq g.K.Head.Default g.A.Allocator)) 0 9223372036854775808 c.requires-raw.1.1.1.1.1

pub returns : goal.returns
returns g c =
    rw (← c.self.view_is) (record {
      between = λ x h. c.close.ensures.between x.accepted x.homes _ h.outbox;
      closed = λ x h.
          let over = c.close.ensures.between x.accepted x.homes _ h.outbox in
          on_ok c.close.result (λ answered same. rw same (stands_shut g.K.Channel.rules g.met.K.Channel.partial_masked _ x (over.0 answered) h))
          c.close.ensures.closed;
      again = λ shut. let again = c.close.ensures.again shut in (again.0, rw again.1 refl);
      refused = on_err c.close.result (λ same. rw same refl) c.close.ensures.refused;
    })
