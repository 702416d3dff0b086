use Rattle.std.proofs.Common.{arith, false, ap, ◌∙◌}
use Rattle.std.proofs.lemmas.List.{get_or_read}
use Rattle.tl_settle.specs.Tables.{is_busy}
use Rattle.tl_settle.proofs.tables.SourceTable.busy.Goals as goal

pub index-requires : goal.index-requires
index-requires g c = omega (arith, c.self.invariant, c.self.inside.busy.ok.0, c.ranges.source.fits)

pub returns : goal.returns
returns g c =
    let v = c.self.inside.busy in
    get_or_read v.items _ _ (omega (arith, c.self.invariant, v.ok.0, c.ranges.source.fits)) c.index.ensures false ∙
    ap (λ t. is_busy t c.args.source) c.self.view_is
