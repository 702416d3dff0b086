use Rattle.std.proofs.Common.{rules, subst}
use Rattle.std.specs.Prelude.{IfOk}
use Rattle.tl_sides.proofs.Words.{beat_small, rules_a, IsPlaceOf, asked_ask}
use Rattle.tl_settle.specs.Books.{client_decides}
use Rattle.tl_sides.proofs.BoxSteps.{book_accepts, book_refuses, sent_offered}
use Rattle.tl_sides.proofs.offering.offer_request.Goals as goal

pub offer_at-requires : goal.offer_at-requires
offer_at-requires g c = (
  search rules,
  (
    beat_small g.row.C c.requires.0,
    (
      c.requires.0,
      c.requires.1,
      c.requires.2,
      subst (λ q. IfOk q (IsPlaceOf rules_a g.row.C c.args.outbox.now.converter.burst c.args.beat.now)) c.in-Ok.ensures.place c.check.ensures.place,
    ),
  ),
)

pub returns-in-Err : goal.returns-in-Err
returns-in-Err g c = book_refuses client_decides (λ _ _. Unit {0}) (λ _ _. 0) c.args.outbox.now _ c.args.beat.now _ c.check.ensures.place
    c.check.ensures.first_fault _ _ c.in-Err.ensures.admits

pub returns : goal.returns
returns g c = book_accepts client_decides (λ _ _. Unit {0}) (λ _ _. 0) c.args.outbox.now _ c.args.beat.now _ c.check.ensures.place
    c.check.ensures.first_fault _ _ _ c.in-Ok.ensures.admits (λ es. asked_ask es c.args.beat.now)
    (λ x h. sent_offered rules_a _ _ x.crossing c.args.beat.now 0 c.requires.2 c.offer_at.ensures.still h.box
    (c.offer_at.ensures.accepted x.crossing.accepted x.crossing.homes x.crossing.taken h.box.sent)) (λ x h. tt)
