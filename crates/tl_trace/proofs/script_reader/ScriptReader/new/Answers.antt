use Rattle.tl_trace.proofs.Pieces.{begun}
use Rattle.tl_trace.proofs.script_reader.ScriptReader.new.Goals as goal

pub returns-clause-header : goal.returns-clause-header
returns-clause-header g c text line = begun c.args.version text c.empty_script.result c.empty_script.ensures line
