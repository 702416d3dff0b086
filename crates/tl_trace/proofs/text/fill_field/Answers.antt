use Rattle.tl_trace.proofs.Names.{◌≡◌, ◌<◌, ◌+◌, length, ap, ◌∙◌, arith, hex}
use Rattle.tl_trace.proofs.HexText.{after_space, length-hex}
use Rattle.tl_trace.proofs.text.fill_field.Goals as goal

pub returns-clause-items : goal.returns-clause-items
returns-clause-items c =
    let long : length c.write_digits.new.digits ≡ c.args.count = ap length c.write_digits.ensures ∙ length-hex c.args.count c.args.value in
    let within : c.args.at < length c.args.line.now = omega (arith, c.requires) in
    after_space c.args.line.now c.write_digits.new.digits (hex c.args.count c.args.value) c.args.at _ (c.args.at + 1 + c.args.count) within
    (omega (arith, long)) c.write_digits.ensures
