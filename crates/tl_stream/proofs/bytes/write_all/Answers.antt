use Rattle.tl_stream.proofs.Names.{Appends-kept}
use Rattle.tl_stream.proofs.Writing.{all_out, on_ok}
use Rattle.tl_stream.proofs.bytes.write_all.Goals as goal

pub returns-clause-all : goal.returns-clause-all
returns-clause-all g c = on_ok c.flush.result (Appends-kept _ _ _ c.args.bytes.now c.in_ok-write_bytes.ensures.all c.flush.ensures.kept)

pub returns-clause-part : goal.returns-clause-part
returns-clause-part g c = all_out _ _ _ c.args.bytes.now c.flush.result c.in_ok-write_bytes.ensures.all c.flush.ensures.kept
