use Rattle.tl_trace.proofs.Names.{◌≡◌, ◌<◌, ◌+◌, ◌*◌, length, ap, ◌∙◌, arith, number_of_lanes, hex}
use Rattle.tl_trace.proofs.HexText.{after_space, length-hex}
use Rattle.tl_trace.proofs.text.fill_lanes.Goals as goal

pub returns-clause-items : goal.returns-clause-items
returns-clause-items c =
    let digits = hex (2 * c.args.w) (number_of_lanes c.args.lanes.now) in
    let long : length c.write_lanes.new.digits ≡ 2 * c.args.w =
    ap length c.write_lanes.ensures ∙ length-hex (2 * c.args.w) (number_of_lanes c.args.lanes.now) in
    let within : c.args.at < length c.args.line.now = omega (arith, c.requires.room) in
    after_space c.args.line.now c.write_lanes.new.digits digits c.args.at _ (c.args.at + 1 + 2 * c.args.w) within (omega (arith, long))
    c.write_lanes.ensures
