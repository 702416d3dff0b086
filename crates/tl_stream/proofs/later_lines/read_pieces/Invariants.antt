use Rattle.tl_stream.proofs.Names.{length, unread_of}
use Rattle.tl_stream.proofs.Consuming.{GoesOn}
use Rattle.tl_stream.proofs.ToRead.{to_read}
use Rattle.tl_stream.proofs.later_lines.read_pieces.Given as goal

abbrev pub invariant-pieces : goal.invariant-pieces
invariant-pieces g l =
    GoesOn g.L.BeatConsumer.HasConsumed g.L.BeatConsumer.ConsumesOn (length l.fn.input.buffer.items) l.fn.consumer (unread_of l.fn.input (g.R.Read.remaining l.fn.reader)) (g.R.Read.remaining l.reader)
    l.fn.lines.version l.lines l.input l.consumer

abbrev pub decreases-pieces : goal.decreases-pieces
decreases-pieces g l = to_read l.input
