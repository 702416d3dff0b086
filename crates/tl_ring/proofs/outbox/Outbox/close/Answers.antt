use Rattle.tl_ring.proofs.Names.{refl, sym, ◌∙◌, ⊎_elim, or_parts}
use Rattle.tl_ring.proofs.Moves.{not-ok}
use Rattle.tl_ring.proofs.Answered.{one_of_two}
use Rattle.tl_ring.proofs.Boxes.{has_closed}
use denote.Param.{layout, param, number, copied}
use Rattle.tl_ring.specs.contracts.outbox.Outbox.{the_row}
use Rattle.tl_ring.proofs.FieldSizes.{part_small}
use Rattle.tl_ring.proofs.outbox.Outbox.close.Goals as goal

pub at_boundary-requires : goal.at_boundary-requires
at_boundary-requires g c = part_small (layout
    (the_row (param 0 g.row.K) (param 1 (number g.row.W)) (param 2 (number g.row.V)) (copied 3 g.row.K-Head) g.K.Channel g.K.Head.PartialEq
    g.K.Head.Default)) 0 9223372036854775808 c.requires-raw.1.1.1.1

pub returns-then-not-may_close : goal.returns-then-not-may_close
returns-then-not-may_close g c =
    let neither = or_parts c.self.inside.closed c.at_boundary.result c.if-not-may_close.true in
    rw (← c.self.view_is) (record {
      between = λ bs homes sent h.
          let boundary = c.at_boundary.ensures bs homes h.converter in
          (λ answered. not-ok answered, λ over. sym neither.1 ∙ boundary.1 over);
      stands = λ bs homes sent h. tt;
      closed = tt;
      again = λ was. not-ok (sym neither.0 ∙ was);
      refused = refl;
    })

pub returns : goal.returns
returns g c =
    let closed_or_over = one_of_two c.self.inside.closed c.at_boundary.result c.if-not-may_close.false in
    rw (← c.self.view_is) (record {
      between = λ bs homes sent h.
          (λ answered. ⊎_elim h.closed_whole (c.at_boundary.ensures bs homes h.converter).0 closed_or_over, λ over. refl);
      stands = λ bs homes sent h.
          has_closed g.K.Channel.rules _ bs homes sent (⊎_elim h.closed_whole (c.at_boundary.ensures bs homes h.converter).0 closed_or_over) h;
      closed = refl;
      again = λ was. (refl, rw was refl);
      refused = tt;
    })
