use Rattle.tl_stream.proofs.Consuming.{reads-script}
use Rattle.tl_stream.proofs.later_lines.script_of_input.Goals as goal

pub returns : goal.returns
returns g c = reads-script _ _ c.args.version c.read_through.new.input c.read_through.new.consumer c.read_through.result
    c.read_through.ensures.ok c.read_through.ensures.err
