use Rattle.tl_trace.proofs.Names.{◌≡◌, ◌-◌, ◌%◌, ◌^◌, ◌∷◌, ◌++◌, List, ℕ, length, take, ap, ◌∙◌, arith}
use Rattle.tl_trace.proofs.HexText.{length-hex, hex_rest, more_digits}
use Rattle.tl_trace.proofs.text.fill_mask_field.Goals as goal

pub returns-then-count-le-DIGITS-clause-items : goal.returns-then-count-le-DIGITS-clause-items
returns-then-count-le-DIGITS-clause-items c =
    c.fill_field.ensures.items
    ∙ ap (λ (ds : List ℕ). take c.args.at c.args.line.now ++ 32 ∷ ds) (hex_rest c.args.count c.args.mask c.if-count-le-DIGITS.true)

pub returns-clause-items : goal.returns-clause-items
returns-clause-items c =
    let long : length c.write_digits.new.digits ≡ 16 = ap length c.write_digits.ensures ∙ length-hex 16 (c.args.mask % 2 ^ 64) in
    more_digits c.fill_field-half.new.line c.write_digits.new.digits (take c.args.at c.args.line.now) c.fill_field-half.result _ _ (c.args.count - 16)
    c.args.count c.args.mask
    (omega (arith, c.fill_field-half.ensures.end, c.fill_field-half.auto.line, c.requires.room, c.if-count-le-DIGITS.false)) (omega (arith, long))
    (omega (arith, c.if-count-le-DIGITS.false))
    c.fill_field-half.ensures.items c.write_digits.ensures
