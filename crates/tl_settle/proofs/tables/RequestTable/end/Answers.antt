use Rattle.std.proofs.Common.{◌<◌, length, ◌==◌, None, arith, cond, ◌∙◌, ap}
use Rattle.tl_settle.specs.Tables.{entry}
use Rattle.tl_settle.specs.Inner.Entries.{request_in}
use Rattle.tl_settle.proofs.Entries.{mapped_set}
use Rattle.tl_settle.proofs.tables.RequestTable.end.Goals as goal

pub returns : goal.returns
returns g c = λ s.
    let v = c.self.inside.entries in
    let within : c.args.source < length v.items = omega (arith, c.self.invariant, v.ok.0, c.ranges.source.fits) in
    mapped_set request_in v.items c.args.source s _ None within ∙ ap (λ t. cond (c.args.source == s) None (entry t s)) c.self.view_is
