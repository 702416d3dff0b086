use Rattle.std.proofs.Common.{◌<◌, length, ◌==◌, arith, false, cond, ap, ◌∙◌}
use Rattle.tl_settle.specs.Tables.{is_busy}
use Rattle.tl_settle.proofs.Entries.{set_any}
use Rattle.tl_settle.proofs.tables.SourceTable.end.Goals as goal

pub returns : goal.returns
returns g c = λ s.
    let v = c.self.inside.busy in
    let within : c.args.source < length v.items = omega (arith, c.self.invariant, v.ok.0, c.ranges.source.fits) in
    set_any v.items c.args.source s false false within ∙ ap (λ t. cond (c.args.source == s) false (is_busy t s)) c.self.view_is
