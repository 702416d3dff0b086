use Rattle.tl_ring.proofs.Names.{◌≡◌, ◌+◌, length, ap, ◌∙◌, arith, length-append}
use Rattle.rtrb.specs.Ring as rtrb
use Rattle.tl_ring.proofs.Times.{items_length}
use Rattle.tl_ring.specs.Halves.{items}
use Rattle.tl_ring.proofs.halves.taken_count.Goals as goal

pub returns-clause-exact : goal.returns-clause-exact
returns-clause-exact g c taken takes few =
    let half = rtrb.received c.args.intake.now.half.end in
    let all : length (items half) ≡ length taken + length c.args.inbox.now = ap length takes ∙ length-append taken c.args.inbox.now in
    let same : length (items half) ≡ length half = items_length half in
    omega (arith, all, same, few, c.saturating_sub.ensures, c.count.ensures, c.len.ensures.count, c.len.ensures.most)
