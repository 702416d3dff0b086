use Rattle.tl_ring.proofs.Names.{refl}
use Rattle.tl_ring.proofs.EndSteps.{sends_shut}
use denote.Param.{layout, param, number, copied}
use Rattle.tl_ring.specs.contracts.ends.SendEnd.{the_row}
use Rattle.tl_ring.proofs.FieldSizes.{part_small}
use Rattle.tl_ring.proofs.ends.SendEnd.close.Goals as goal

pub close-requires : goal.close-requires
close-requires g c = part_small (layout (the_row (param 0 g.row.K) (param 1 (number g.row.W)) (param 2 (number g.row.V)) (param 3 g.row.A)
    (copied 4 g.row.K-Head) g.K.Channel g.K.Head.Clone g.K.Head.Eq g.K.Head.PartialEq g.K.Head.Default g.A.Allocator)) 0 9223372036854775808
    c.requires-raw.1.1.1.1.1.0

pub returns-in-Ok : goal.returns-in-Ok
returns-in-Ok g c =
    rw (← c.self.view_is) (record {
      between = λ x h. c.in-Ok.ensures.between x.accepted x.homes _ h.pipe.outbox;
      stands = λ x h. rw c.in-Ok.ensures.closed (sends_shut g.K.Channel.rules g.met.K.Channel.partial_masked _ x
          ((c.in-Ok.ensures.between x.accepted x.homes _ h.pipe.outbox).0 refl) h);
      closed = rw c.in-Ok.ensures.closed refl;
      refused = tt;
    })

pub returns-in-Err : goal.returns-in-Err
returns-in-Err g c =
    rw (← c.self.view_is) (record {
      between = λ x h. c.in-Err.ensures.between x.accepted x.homes _ h.pipe.outbox;
      stands = λ x h. tt;
      closed = tt;
      refused = rw c.in-Err.ensures.refused refl;
    })
