use Rattle.tl_answer.proofs.Names.{held}
use Rattle.tl_stream.proofs.ToRead.{widths_named}
use Rattle.tl_answer.proofs.widths.lemma_are_widths.Goals as goal

pub returns : goal.returns
returns g c =
    let widths = widths_named (held c.args.input.now) c.args.version g.row.C g.row.M c.requires in
    record { client = widths.0; manager = widths.1 }
