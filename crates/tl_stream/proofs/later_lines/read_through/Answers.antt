use Rattle.tl_stream.proofs.Names.{length, subst, IsReadThrough, unread_of}
use Rattle.tl_stream.specs.Consuming.{IsConsumedInPieces}
use Rattle.tl_stream.proofs.later_lines.read_through.Goals as goal

pub returns-in-Ok : goal.returns-in-Ok
returns-in-Ok g c = record {
  ok = subst (λ v. IsReadThrough (g.L.BeatConsumer.HasConsumed v) (unread_of c.args.input.now (g.R.Read.remaining c.args.reader.now))
      (g.R.Read.remaining c.read_pieces.new.reader) v c.read_pieces.new.consumer c.read_pieces.new.lines.script)
      c.new-lines.ensures.version c.in-Ok.ensures.0;
  pieces = subst (λ v. IsConsumedInPieces g.L.BeatConsumer.ConsumesOn v (length c.args.input.now.buffer.items) c.args.consumer.now
      (unread_of c.args.input.now (g.R.Read.remaining c.args.reader.now)) (g.R.Read.remaining c.read_pieces.new.reader)
      c.read_pieces.new.consumer c.read_pieces.new.lines.script) c.new-lines.ensures.version c.in-Ok.ensures.1;
  err = tt;
}

pub returns-in-Err : goal.returns-in-Err
returns-in-Err g c = record { ok = tt; pieces = tt; err = c.in-Err.ensures }
