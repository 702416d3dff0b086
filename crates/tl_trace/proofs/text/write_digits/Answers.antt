use Rattle.tl_trace.proofs.Names.{arith}
use Rattle.tl_trace.proofs.HexText.{hex_start, pair_next}
use Rattle.tl_trace.proofs.text.write_digits.Goals as goal

pub loop-i-init : goal.loop-i-init
loop-i-init c = hex_start c.args.count c.args.value _ c.requires

pub loop-i-preserved : goal.loop-i-preserved
loop-i-preserved c =
    pair_next c.args.count c.args.value c.loop-i.digits c.loop-i.rest c.loop-i.i c.low_digit.result c.high_digit.result
    (omega (arith, c.loop-i-test.true)) c.loop-i.invariant c.low_digit.ensures c.high_digit.ensures
