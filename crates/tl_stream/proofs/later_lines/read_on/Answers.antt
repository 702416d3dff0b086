use Rattle.tl_stream.proofs.Consuming.{can-consume}
use Rattle.tl_stream.proofs.later_lines.read_on.Goals as goal

pub returns : goal.returns
returns g c = record {
  read = c.read_held.ensures;
  consume = can-consume g.L.BeatConsumer.HasConsumed c.args.lines.now c.args.input.now c.read_held.new.lines c.read_held.new.input c.args._consumer.now
      c.read_held.result c.requires.0.client c.requires.0.manager c.requires.1 c.read_held.ensures;
}
