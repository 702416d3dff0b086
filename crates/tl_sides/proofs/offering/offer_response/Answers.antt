use Rattle.std.proofs.Common.{◌≡◌, rules, subst}
use Rattle.std.specs.Prelude.{IfOk}
use Rattle.tl_sides.proofs.Words.{beat_small, rules_d, IsPlaceOf, answered_answer, manager_home, manager_homes}
use Rattle.tl_settle.specs.Books.{manager_decides}
use Rattle.tl_sides.proofs.BoxSteps.{book_accepts, book_refuses, booked_checked, between_of, responds}
use Rattle.tl_sides.proofs.BridgeSteps.{homes_given}
use Rattle.tl_sides.proofs.offering.offer_response.Goals as goal

pub offer_at-requires : goal.offer_at-requires
offer_at-requires g c = (
  search rules,
  (
    beat_small g.row.M c.requires.0,
    (
      c.requires.0,
      c.requires.1,
      c.requires.2,
      subst (λ q. IfOk q (IsPlaceOf rules_d g.row.M c.args.outbox.now.converter.burst c.args.beat.now)) c.in-Ok.ensures.place c.check.ensures.place,
    ),
  ),
)

pub returns-in-Err : goal.returns-in-Err
returns-in-Err g c = book_refuses manager_decides (λ es homes. manager_homes es ≡ homes) (λ es b. manager_home es b.head) c.args.outbox.now _
    c.args.beat.now _ c.check.ensures.place c.check.ensures.first_fault _ _ c.in-Err.ensures.admits

pub returns : goal.returns
returns g c = book_accepts manager_decides (λ es homes. manager_homes es ≡ homes) (λ es b. manager_home es b.head) c.args.outbox.now _
    c.args.beat.now _ c.check.ensures.place c.check.ensures.first_fault _ _ _ c.in-Ok.ensures.admits (λ es. answered_answer es c.args.beat.now)
    (λ x h. responds x.history _ _ x.crossing c.args.beat.now _ c.requires.2 c.offer_at.ensures.still h.box h.accepted
    (c.in-Ok.ensures.home x.history c.args.beat.now h.book (booked_checked manager_decides (λ es homes. manager_homes es ≡ homes)
    (λ es b. manager_home es b.head) c.args.outbox.now _ c.args.beat.now _ c.check.ensures.place c.check.ensures.first_fault x h))
    (c.offer_at.ensures.accepted x.crossing.accepted x.crossing.homes x.crossing.taken h.box.sent))
    (λ x h. homes_given x.history c.args.beat.now x.crossing.accepted x.crossing.homes
    (between_of rules_d c.args.outbox.now x.crossing.accepted x.crossing.homes x.crossing.taken h.box.sent) h.accepted h.homes)
