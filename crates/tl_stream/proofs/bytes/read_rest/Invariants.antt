use Rattle.tl_stream.proofs.Names.{length, ◌<◌, ◌-◌, most_bytes}
use Rattle.tl_stream.proofs.Reading.{SoFar}
use Rattle.tl_stream.proofs.bytes.read_rest.Given as goal

abbrev pub invariant-loop-n : goal.invariant-loop-n
invariant-loop-n g l = record {
  sofar : SoFar (g.R.Read.remaining l.fn.reader) (g.R.Read.remaining l.reader) l.all.items;
  room : 0 < length l.buffer;
}

abbrev pub decreases-loop-n : goal.decreases-loop-n
decreases-loop-n g l = most_bytes - length l.all.items
