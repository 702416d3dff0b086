use Rattle.std.proofs.Common.{◌≡◌, ◌+◌, ◌++◌, ◌∷◌, [], List, length, length-append, refl, sym, ap, ◌∙◌, arith}
use Rattle.tl_msg.specs.Tables.{rules_d}
use Rattle.tl_msg.specs.declared.head.HeadD.{HeadD}
use Rattle.tl_msg.specs.declared.beat.BeatOf.{BeatOf}
use Rattle.tl_convert.specs.Due.{due}
use Rattle.tl_ring.specs.Ends.{known_items}
use Rattle.tl_settle.specs.Histories.{Event, Ask, Answer, answered}
use Rattle.bridge_tests.proofs.pair.response.cross_back.Goals as goal

answered-more : {w : _} (es : List (Event w)) (b : BeatOf HeadD w) → answered (es ++ Answer b ∷ []) ≡ answered es ++ b ∷ []
answered-more [] b = refl
answered-more (Ask q ∷ es) b = answered-more es b
answered-more (Answer r ∷ es) b = ap (λ bs. r ∷ bs) (answered-more es b)

-- how many beats are in an inbox, a ring and a stage
in-three : {X : Type 0} (inbox ring stage : List X) → length ((inbox ++ ring) ++ stage) ≡ length stage + length ring + length inbox
in-three inbox ring stage =
    let both = length-append (inbox ++ ring) stage in
    let front = length-append inbox ring in
    omega (arith, both, front)

-- the pasts of both sides, and the meeting that makes one crossing of them
pub returns-in-Some-first : goal.returns-in-Some-first
returns-in-Some-first c =
    let asked = c.asks-has_asked.ensures.asked c.requires.client c.if-not-has_asked.false in
    let sent = rw c.in-Some.is at (c.responds-request.ensures.sent c.requires.manager) in
    let last = rw c.in-Some-first.is at (c.takes_response-first.ensures.taken asked.0 asked.1) in
    let first = c.in-Some-first.first in
    let met = c.meet_sides-standings in
    let d = (met.ensures.meets _ sent.0 last sent.1).d in
    let inbox = met.new.client.d.inbox in
    let ring = known_items met.new.client.d in
    let stage = met.new.manager.d.stage in
    let taken = answered-more asked.0.history first ∙ ap (λ bs. bs ++ first ∷ []) asked.2 in
    let layout : due rules_d 16 4 sent.0.d.accepted sent.0.d.homes ≡ due rules_d 16 4 (c.args.response ∷ []) (c.in-Some.request.head.address ∷ []) =
    λ i. due rules_d 16 4 (sent.2 i) (sent.3 i) in
    let three = in-three inbox ring stage in
    let standing = met.ensures.standing_d in
    record {
      headline = (
        (inbox ++ ring) ++ stage,
        ap (λ q. (first ∷ (inbox ++ ring)) ++ q) d.sends.pipe.stage ∙ ap (λ bs. ((bs ++ inbox) ++ ring) ++ sent.0.d.stage) (sym taken) ∙ d.crosses.beats ∙ layout,
        three ∙ sym (omega (arith, standing.staged, standing.in_ring, standing.inbox)),
      );
    }
