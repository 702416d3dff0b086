use Rattle.tl_stream.proofs.Names.{refl}
use Rattle.tl_stream.proofs.Writing.{goes_on, none_taken, part_out}
use Rattle.tl_stream.proofs.bytes.write_bytes.Goals as goal

pub loop-written-preserved : goal.loop-written-preserved
loop-written-preserved g c = goes_on _ _ _ c.args.bytes.now _ c.loop-written.written c.in-Ok.n refl c.loop-written.invariant
    c.in-Ok.ensures.bound c.in-Ok.ensures.bytes

pub returns-in-Ok-eq0-clause-part : goal.returns-in-Ok-eq0-clause-part
returns-in-Ok-eq0-clause-part g c =
    part_out _ _ _ c.args.bytes.now c.loop-written.written c.loop-written.invariant
    (none_taken _ _ _ c.in-Ok-eq0.field-0 c.in-Ok-eq0.field-0-test c.in-Ok-eq0.ensures.bytes)

pub returns-in-Err-clause-part : goal.returns-in-Err-clause-part
returns-in-Err-clause-part g c =
    part_out _ _ _ c.args.bytes.now c.loop-written.written c.loop-written.invariant c.in-Err.ensures.bytes
