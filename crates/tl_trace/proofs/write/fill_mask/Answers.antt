use Rattle.tl_trace.proofs.Names.{◌+◌, ◌++◌, ◌∷◌, ◌/◌, ℕ, take, ap, ◌∙◌, arith, hex}
use Rattle.tl_trace.proofs.LineText.{a_part, a_part_end, field_end, field_room, no_part, no_part_end, part_room}
use Rattle.tl_trace.proofs.write.fill_mask.Goals as goal

pub returns : goal.returns
returns c = record {
  items = a_part _ _ _ _ c.if-not-masked.false (c.fill_mask_field.ensures.items ∙
      ap (λ (n : ℕ). take c.args.at c.args.line.now ++ 32 ∷ hex n c.args.mask) c.mask_digits.ensures);
  end = a_part_end c.fill_mask_field.result c.args.at (1 + (c.args.w + 3) / 4) _ c.if-not-masked.false
      (field_end c.fill_mask_field.result c.args.at c.mask_digits.result ((c.args.w + 3) / 4) c.mask_digits.ensures c.fill_mask_field.ensures.end);
}

pub returns-then-not-masked : goal.returns-then-not-masked
returns-then-not-masked c = record {
  items = no_part _ _ _ c.if-not-masked.true;
  end = no_part_end c.args.at (1 + (c.args.w + 3) / 4) _ c.if-not-masked.true;
}

pub mask_digits-requires : goal.mask_digits-requires
mask_digits-requires c = omega (arith, c.requires.width)

pub fill_mask_field-requires : goal.fill_mask_field-requires
fill_mask_field-requires c = record {
  few = omega (arith, c.requires.width, c.mask_digits.ensures);
  room = field_room c.args.at c.mask_digits.result ((c.args.w + 3) / 4) _ c.mask_digits.ensures
      (part_room c.args.at (1 + (c.args.w + 3) / 4) _ _ c.if-not-masked.false c.requires.room);
}
