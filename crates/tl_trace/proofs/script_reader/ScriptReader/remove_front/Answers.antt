use Rattle.tl_trace.proofs.Names.{refl}
use Rattle.tl_trace.proofs.Pieces.{lets_go}
use Rattle.tl_trace.proofs.script_reader.ScriptReader.remove_front.Goals as goal

pub returns : goal.returns
returns g c = record {
  version = refl;
  line = refl;
  left = c.remove_front.ensures;
  told = lets_go c.args.self.now.version c.args.counts.now c.args.self.now.script c.remove_front.new.self c.args.self.now.line c.remove_front.ensures;
}
