use Rattle.tl_answer.proofs.Names.{sym}
use Rattle.tl_answer.proofs.Headers.{widest}
use Rattle.tl_answer.proofs.widths.known_header.Goals as goal

pub returns-in-Some : goal.returns-in-Some
returns-in-Some c =
    let header = c.in-Some.header in
    let is = sym c.in-Some.ensures in
    let widths = widest c.args.text.now header.version header.client header.manager is in
    record { ok = is; err = tt; client = widths.0; manager = widths.1 }
