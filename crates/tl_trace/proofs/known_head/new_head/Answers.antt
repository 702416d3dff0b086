use Rattle.tl_trace.proofs.KnownHeads.{new_head}
use Rattle.tl_trace.proofs.known_head.new_head.Goals as goal

pub returns : goal.returns
returns g c =
    new_head (g.K.HeadText.form g.row.VERSION) g.row.VERSION c.args.text.now c.read_head-fields.result c.head_of.result c.read_head-fields.ensures
    c.if-fields-gt15.false
    (c.head_of.ensures g.row.VERSION (c.read_head-fields.ensures.small c.if-fields-gt15.false))
