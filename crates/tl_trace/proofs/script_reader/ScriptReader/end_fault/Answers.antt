use Rattle.tl_trace.proofs.Names.{◌<◌, ◌∙◌, length, sym, ap, Option, Some, ◌or_else◌, TraceKind, NoEnd}
use Rattle.tl_trace.proofs.Walk.{end_no_memory, later_last, no_memory, some_byte, some_fault}
use Rattle.tl_trace.proofs.Pieces.{end_faulty}
use Rattle.tl_trace.proofs.script_reader.ScriptReader.end_fault.Goals as goal

pub returns-in-Ok : goal.returns-in-Ok
returns-in-Ok g c =
    let some : 0 < length c.args.rest.now = some_byte (length c.args.rest.now) (sym c.is_empty.ensures ∙ c.if-is_empty.false) in
    record {
      none = λ none. absurd (some_fault none);
      kind = end_no_memory;
      fault = λ done discarded read. end_faulty c.args.self.now.version done c.args.rest.now discarded c.args.self.now.script c.args.self.now.line _ read some
          c.requires.rest (later_last c.args.self.now.version g.row.C g.row.M c.args.rest.now c.requires.rest
          ∙ ap (λ (o : Option TraceKind). o or_else Some NoEnd) c.in-Ok.ensures.faultless);
    }

pub returns-in-Err : goal.returns-in-Err
returns-in-Err g c =
    let some : 0 < length c.args.rest.now = some_byte (length c.args.rest.now) (sym c.is_empty.ensures ∙ c.if-is_empty.false) in
    record {
      none = λ none. absurd (some_fault none);
      kind = no_memory c.args.self.now.version g.row.C g.row.M c.args.rest.now c.in-Err.kind c.in-Err.ensures;
      fault = λ done discarded read. end_faulty c.args.self.now.version done c.args.rest.now discarded c.args.self.now.script c.args.self.now.line _ read some
          c.requires.rest (later_last c.args.self.now.version g.row.C g.row.M c.args.rest.now c.requires.rest
          ∙ ap (λ (o : Option TraceKind). o or_else Some NoEnd) c.in-Err.ensures);
    }
