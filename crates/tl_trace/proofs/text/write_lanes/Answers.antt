use Rattle.tl_trace.proofs.Names.{arith, ◌∙◌}
use Rattle.tl_trace.proofs.HexText.{lanes_start, lanes_next, lanes_done, hex_take}
use Rattle.tl_trace.proofs.text.write_lanes.Goals as goal

pub loop-i-init : goal.loop-i-init
loop-i-init c = lanes_start c.args.lanes.now c.args.w _ c.requires.room (omega (arith, c.requires.lanes))

pub loop-i-preserved : goal.loop-i-preserved
loop-i-preserved c =
    lanes_next c.args.lanes.now c.args.w c.loop-i.digits c.loop-i.i c.high_digit.result c.low_digit.result c.loop-i-test.true c.requires.width
    c.requires.lanes (λ k. omega (arith, c.type_inv.lanes k)) c.loop-i.invariant
    c.high_digit.ensures c.low_digit.ensures

pub returns : goal.returns
returns c =
    lanes_done c.args.lanes.now c.args.w c.loop-i.digits c.loop-i.i c.loop-i-test.false (omega arith) c.loop-i.invariant
    ∙ hex_take c.args.lanes.now c.args.w (λ k. omega (arith, c.type_inv.lanes k))
