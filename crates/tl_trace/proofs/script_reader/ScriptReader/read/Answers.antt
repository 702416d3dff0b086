use Rattle.tl_trace.proofs.Names.{rules}
use Rattle.tl_trace.proofs.Ids.{other_version}
use Rattle.tl_trace.proofs.Pieces.{of_version}
use Rattle.tl_trace.proofs.script_reader.ScriptReader.read.Goals as goal

pub returns-in-1 : goal.returns-in-1
returns-in-1 g c =
    let read = of_version c.in-1.is c.read_beats.ensures.read in
    record {
      version = c.read_beats.ensures.version;
      used = read.used;
      lines = read.lines;
      rest = read.rest;
      grown = read.grown;
      told = read.told;
      fault = read.fault;
      memory = read.memory;
      stopped = read.stopped;
    }

pub returns-in_default : goal.returns-in_default
returns-in_default g c =
    let read = of_version (other_version c.args.self.now.version c.requires.version (search rules)) c.read_beats-in_default.ensures.read in
    record {
      version = c.read_beats-in_default.ensures.version;
      used = read.used;
      lines = read.lines;
      rest = read.rest;
      grown = read.grown;
      told = read.told;
      fault = read.fault;
      memory = read.memory;
      stopped = read.stopped;
    }
