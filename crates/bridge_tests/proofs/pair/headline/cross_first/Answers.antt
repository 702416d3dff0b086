use Rattle.std.proofs.Common.{◌≡◌, ◌+◌, ◌++◌, ◌∷◌, [], List, length, length-append, sym, ap, ◌∙◌, arith, lit<}
use Rattle.tl_msg.specs.Tables.{rules_a}
use Rattle.tl_burst.specs.Handing.{homes_with}
use Rattle.tl_convert.specs.Due.{due}
use Rattle.tl_ring.specs.Ends.{known_items}
use Rattle.tl_sides.specs.Sides.{new_manager}
use Rattle.tl_sides.proofs.SameSides.{still_sides}
use Rattle.bridge_tests.proofs.pair.headline.cross_first.Goals as goal

-- how many beats are in an inbox, a ring and a stage
in-three : {X : Type 0} (inbox ring stage : List X) → length ((inbox ++ ring) ++ stage) ≡ length stage + length ring + length inbox
in-three inbox ring stage =
    let both = length-append (inbox ++ ring) stage in
    let front = length-append inbox ring in
    omega (arith, both, front)

pub meet_sides-standings-requires : goal.meet_sides-standings-requires
meet_sides-standings-requires c =
    let sent = c.sends_first-sent in
    let took = c.takes_first-first in (
      lit< tt,
      (
        lit< tt,
        still_sides c.args.client.now sent.new.client c.args.manager.now took.new.manager sent.ensures.same took.ensures.same c.requires.sides,
      ),
    )

-- the pasts of both sides, and the meeting that makes one crossing of them
pub returns-in-Some-first : goal.returns-in-Some-first
returns-in-Some-first c =
    let sent = rw c.in-Some.is at (c.sends_first-sent.ensures.sent c.requires.client) in
    let taken = rw c.in-Some-first.is at (c.takes_first-first.ensures.taken (new_manager 1) c.requires.manager) in
    let met = c.meet_sides-standings in
    let meets = (met.ensures.meets sent.0 _ sent.1 taken).a in
    let s = met.new.client.a in
    let t = met.new.manager.a in
    let layout : due rules_a 8 4 sent.0.a.accepted sent.0.a.homes ≡ due rules_a 8 4 (c.args.request ∷ []) (homes_with rules_a {w = 8} [] [] c.args.request 0) = λ i. due rules_a 8 4 (sent.2 i) (sent.3 i) in
    let three = in-three t.inbox (known_items t) s.stage in
    let standing = met.ensures.standing_a in
    record {
      headline = (
        (t.inbox ++ known_items t) ++ s.stage,
        ap (λ q. (c.in-Some-first.first ∷ (t.inbox ++ known_items t)) ++ q) meets.sends.pipe.stage ∙ meets.crosses.beats ∙ layout,
        three ∙ sym (omega (arith, standing.staged, standing.in_ring, standing.inbox)),
      );
    }
