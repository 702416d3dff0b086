use Rattle.std.proofs.Common.{◌≡◌, ◌+◌, ◌++◌, ◌∷◌, [], List, length, length-append, sym, ap, ◌∙◌, arith}
use Rattle.tl_ring.specs.Crossing.{empty}
use Rattle.tl_ring.specs.Ends.{known_items}
use Rattle.bridge_tests.proofs.ring.headline.cross_in_two_threads.Goals as goal

-- how many beats stand in an inbox, a ring and a stage
in-three : {X : Type 0} (inbox ring stage : List X) → length ((inbox ++ ring) ++ stage) ≡ length stage + length ring + length inbox
in-three inbox ring stage =
    let both = length-append (inbox ++ ring) stage in
    let front = length-append inbox ring in
    omega (arith, both, front)

-- the pasts of both ends come out of their threads, and the meeting makes one crossing of them
pub returns-in-Some-first : goal.returns-in-Some-first
returns-in-Some-first g c =
    let new = c.requires.new in
    let both = c.send_and_take-sent.ensures in
    let sent = rw c.in-Some.is at (both.sent (empty 4) new.1) in
    let taken = rw c.in-Some-first.is at (both.taken [] new.2) in
    let met = c.meet-standing.ensures in
    let meets = met.meets _ (c.in-Some-first.first ∷ []) sent taken in
    let t = c.meet-standing.new.take in
    let s = c.meet-standing.new.send in
    let three = in-three t.inbox (known_items t) s.stage in
    record {
      headline = (
        (t.inbox ++ known_items t) ++ s.stage,
        ap (λ q. (c.in-Some-first.first ∷ (t.inbox ++ known_items t)) ++ q) meets.sends.pipe.stage ∙ meets.crosses.beats,
        three ∙ sym (omega (arith, met.staged, met.in_ring, met.inbox)),
      );
    }
