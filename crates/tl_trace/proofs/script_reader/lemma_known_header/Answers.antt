use Rattle.tl_trace.proofs.Names.{body}
use Rattle.tl_trace.proofs.Headers.{header, known}
use Rattle.tl_trace.proofs.Widths.{width_most}
use Rattle.tl_trace.proofs.script_reader.lemma_known_header.Goals as goal

pub returns : goal.returns
returns g c =
    let all = known (body c.args._text.now) (header c.args._version g.row.C g.row.M) c.requires in
    record { version = all.0; client = width_most c.args._version g.row.C all.1; manager = width_most c.args._version g.row.M all.2 }
