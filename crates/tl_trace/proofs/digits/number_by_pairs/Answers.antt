use Rattle.tl_trace.proofs.Names.{◌≡◌, ◌*◌, length, arith}
use Rattle.tl_trace.proofs.ReadDigits.{pairs_start, pairs_more, pairs_done}
use Rattle.tl_trace.proofs.digits.number_by_pairs.Goals as goal

pub loop-i-init : goal.loop-i-init
loop-i-init c = pairs_start c.args.digits.now

pub loop-i-preserved : goal.loop-i-preserved
loop-i-preserved c =
    pairs_more c.args.digits.now c.loop-i.i c.loop-i.value c.loop-i.pairs c.pair-byte.result (omega (arith, c.loop-i-test.true))
    (omega (arith, c.requires.few, c.loop-i-test.true)) c.loop-i.invariant c.pair-byte.ensures.good c.pair-byte.ensures.bad

pub returns : goal.returns
returns c =
    let same : 2 * c.loop-i.i ≡ length c.args.digits.now = omega (arith, c.requires.even, c.loop-i-test.false, c.loop-i.auto.i-end) in
    pairs_done c.args.digits.now c.loop-i.i c.loop-i.value c.loop-i.pairs _ same c.loop-i.invariant c.bad_of.ensures
