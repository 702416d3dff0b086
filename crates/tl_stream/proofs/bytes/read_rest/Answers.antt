use Rattle.tl_stream.proofs.Names.{arith}
use Rattle.tl_stream.proofs.Reading.{all_read, goes_on, less, none, not_read}
use Rattle.tl_stream.proofs.bytes.read_rest.Goals as goal

pub loop-n-init : goal.loop-n-init
loop-n-init g c = record { sofar = none _ c.args.all.now.items c.requires.0; room = c.requires.1 }

pub returns-in-Err : goal.returns-in-Err
returns-in-Err g c = not_read _ _ _ c.loop-n.all.items c.fill.new.room c.loop-n.invariant.sofar _ (omega (arith, c.len.ensures))
    c.in-Err.fault c.in-Err.ensures

pub returns-then-n-buffer : goal.returns-then-n-buffer
returns-then-n-buffer g c =
    all_read _ _ _ c.loop-n.all.items c.fill.new.room c.loop-n.invariant.sofar _ (omega (arith, c.len.ensures))
    c.in-Ok.n _ c.in-Ok.ensures c.in_default.ensures.items
    (omega (arith, c.if-n-buffer.true))

pub loop-n-smaller : goal.loop-n-smaller
loop-n-smaller g c =
    less _ _ _ c.loop-n.all.items c.fill.new.room c.loop-n.invariant.sofar _ (omega (arith, c.len.ensures))
    c.in-Ok.n _ c.in-Ok.ensures c.in_default.ensures.items
    (omega (arith, c.if-n-buffer.false)) (omega (arith, c.loop-n.invariant.room, c.fill.auto.room))

pub loop-n-preserved : goal.loop-n-preserved
loop-n-preserved g c = record {
  sofar = goes_on _ _ _ c.loop-n.all.items c.fill.new.room c.loop-n.invariant.sofar _ (omega (arith, c.len.ensures))
      c.in-Ok.n _ c.in-Ok.ensures c.in_default.ensures.items;
  room = omega (arith, c.loop-n.invariant.room, c.fill.auto.room);
}
