use Rattle.tl_stream.proofs.Names.{arith, ◌∙◌}
use Rattle.tl_stream.proofs.Filling.{ended, full, goes_on, room_size, too_many}
use Rattle.tl_stream.proofs.input.fill.Goals as goal

pub loop-filled-preserved : goal.loop-filled-preserved
loop-filled-preserved g c =
    goes_on _ _ _ c.args.most c.loop-filled.room c.read.new.buf c.loop-filled.filled c.in-Ok.n c.loop-filled.invariant
    (c.read.auto.buf ∙ room_size c.loop-filled.filled c.loop-filled.room) c.in-Ok.ensures.bound.0
    (omega (arith, c.if-n-most.false)) c.in-Ok.ensures.bytes.0

pub returns-then-n-most : goal.returns-then-n-most
returns-then-n-most g c =
    too_many _ _ _ c.args.most c.loop-filled.room c.read.new.buf c.loop-filled.filled c.in-Ok.n c.loop-filled.invariant
    c.in-Ok.ensures.bound.0 (omega (arith, c.if-n-most.true)) c.in-Ok.ensures.bytes.0

pub returns-in-Ok-eq0 : goal.returns-in-Ok-eq0
returns-in-Ok-eq0 g c =
    ended _ _ _ c.args.most c.loop-filled.room c.read.new.buf c.loop-filled.filled c.in-Ok-eq0.field-0 c.loop-filled.invariant
    (c.read.auto.buf ∙ room_size c.loop-filled.filled c.loop-filled.room)
    (omega (arith, c.loop-filled-test.true)) (omega (arith, c.in-Ok-eq0.field-0-test))
    c.in-Ok-eq0.ensures.bytes.0 c.in-Ok-eq0.ensures.bytes.1

pub returns-in-Err : goal.returns-in-Err
returns-in-Err g c = tt

pub returns : goal.returns
returns g c = full _ _ c.args.most c.loop-filled.room c.loop-filled.filled c.loop-filled.invariant (omega (arith, c.loop-filled-test.false))
