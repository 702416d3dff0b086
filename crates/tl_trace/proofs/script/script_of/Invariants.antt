use Rattle.tl_trace.proofs.Names.{take, IsScriptOf}
use Rattle.tl_trace.proofs.script.script_of.Given as goal

abbrev pub invariant-loop-line : goal.invariant-loop-line
invariant-loop-line g l = IsScriptOf (take l.line-index l.trace.lines.items) l.script
