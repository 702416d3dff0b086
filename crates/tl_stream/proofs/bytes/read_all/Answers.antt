use Rattle.tl_stream.proofs.Names.{refl}
use Rattle.tl_stream.proofs.Filling.{memory-not-long, named-fault, no-fault}
use Rattle.tl_stream.proofs.Reading.{all_of, not-read-kinds}
use Rattle.tl_stream.specs.Inner.Reading.{IsNotRead}
use Rattle.tl_stream.proofs.bytes.read_all.Goals as goal

pub returns-in-Ok-read_rest : goal.returns-in-Ok-read_rest
returns-in-Ok-read_rest g c =
    let read = c.in-Ok-read_rest.ensures in
    record { all = all_of _ _ _ read; few = read.few; end = read.end; long = no-fault; kinds = tt }

pub returns : goal.returns
returns g c = record {
  all = tt;
  few = tt;
  end = tt;
  long = λ e. named-fault (IsNotRead _) c.in-Err.fault _ c.in-Err.ensures e;
  kinds = not-read-kinds _ c.in-Err.fault c.in-Err.ensures;
}

pub returns-in_default : goal.returns-in_default
returns-in_default g c = record { all = tt; few = tt; end = tt; long = memory-not-long; kinds = λ no long. refl }
