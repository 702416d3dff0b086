use Rattle.tl_trace.proofs.Names.{sym, ◌∙◌}
use Rattle.tl_trace.proofs.LineRests.{line_is}
use Rattle.tl_trace.proofs.write.fill_line.Goals as goal

pub returns-clause-items : goal.returns-clause-items
returns-clause-items g c =
    line_is (g.K.HeadText.form c.args.version) c.args.w c.args.beat.now _ _ _ _ (g.met.K.HeadText.masked_form c.args.version ∙ sym c.MASKED.ensures)
    (g.met.K.HeadText.data_form c.args.version ∙ sym c.HAS_DATA.ensures) (g.met.K.HeadText.narrow_head c.args.version _ c.args.w c.args.beat.now)
    c.fill_head-head.ensures.items c.fill_rest.ensures.items
