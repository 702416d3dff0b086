use Rattle.tl_trace.proofs.Names.{◌≡◌, ◌+◌, ◌*◌, length, arith, slice_range}
use Rattle.tl_trace.proofs.ReadDigits.{lanes_start, lanes_more, lanes_are, lanes_done, range_long}
use Rattle.tl_trace.proofs.digits.lanes_field.Goals as goal

pub loop-i-init : goal.loop-i-init
loop-i-init g c = lanes_start c.args.text.now c.args.lanes.now g.row.N c.args.at c.args.w c.requires.lanes c.requires.zero

pub loop-i-preserved : goal.loop-i-preserved
loop-i-preserved g c =
    let long : length (slice_range c.args.text.now (c.args.at + 1) (c.args.at + 1 + 2 * c.args.w)) ≡ 2 * c.args.w =
    range_long c.args.text.now (c.args.at + 1) (2 * c.args.w) c.requires.room in
    lanes_more c.args.text.now c.loop-i.lanes g.row.N c.args.at c.args.w c.loop-i.i c.loop-i.pairs c.pair-lane.result c.loop-i-test.true
    c.requires.width long c.loop-i.invariant c.pair-lane.ensures.good c.pair-lane.ensures.bad

pub returns-clause-bytes : goal.returns-clause-bytes
returns-clause-bytes g c = lanes_are c.args.text.now c.loop-i.lanes g.row.N c.args.at c.args.w c.loop-i.i c.loop-i.pairs c.loop-i.invariant

pub returns-clause-value : goal.returns-clause-value
returns-clause-value g c =
    lanes_done c.args.text.now c.loop-i.lanes g.row.N c.args.at c.args.w c.loop-i.i c.loop-i.pairs _ _ c.loop-i-test.false
    (omega (arith, c.loop-i.auto.i-end)) c.requires.room c.loop-i.invariant c.space.ensures c.bad_of.ensures
