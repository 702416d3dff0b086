use Rattle.tl_trace.proofs.Names.{ℕ, subst, IsNumber}
use Rattle.tl_trace.proofs.LineParts.{mask_part, no_mask_part, mask_room}
use Rattle.tl_trace.proofs.line_reader.read_mask.Goals as goal

pub returns-then-not-masked-clause-part : goal.returns-then-not-masked-clause-part
returns-then-not-masked-clause-part c = no_mask_part c.args.w c.args.text.now c.args.at 0 c.args.masked c.if-not-masked.true

pub mask_field-requires-clause-room : goal.mask_field-requires-clause-room
mask_field-requires-clause-room c =
    mask_room c.args.w c.args.at c.mask_digits.result _ c.args.masked c.if-not-masked.false c.mask_digits.ensures c.requires.room

pub returns-clause-part : goal.returns-clause-part
returns-clause-part c =
    mask_part c.args.w c.args.text.now c.args.at c.mask_field.result.value c.mask_field.result.bad c.args.masked c.if-not-masked.false
    (subst (λ (k : ℕ). IsNumber c.args.text.now c.args.at k c.mask_field.result.value c.mask_field.result.bad)
    c.mask_digits.ensures c.mask_field.ensures)
