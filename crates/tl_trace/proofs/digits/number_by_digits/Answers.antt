use Rattle.tl_trace.proofs.Names.{arith}
use Rattle.tl_trace.proofs.ReadDigits.{spelt_start, spelt_next, spelt_done}
use Rattle.tl_trace.proofs.digits.number_by_digits.Goals as goal

pub loop-byte-init : goal.loop-byte-init
loop-byte-init c = spelt_start c.args.digits.now

pub loop-byte-preserved : goal.loop-byte-preserved
loop-byte-preserved c =
    spelt_next c.args.digits.now c.loop-byte.byte-index c.loop-byte.value c.loop-byte.bad c.digit-digit.result c.loop-byte-test.true
    (omega (arith, c.loop-byte-test.true, c.requires)) c.loop-byte.invariant c.digit-digit.ensures

pub returns : goal.returns
returns c =
    spelt_done c.args.digits.now c.loop-byte.byte-index c.loop-byte.value c.loop-byte.bad (omega (arith, c.loop-byte-test.false))
    (omega (arith, c.loop-byte.auto.byte-index-end)) c.loop-byte.invariant
