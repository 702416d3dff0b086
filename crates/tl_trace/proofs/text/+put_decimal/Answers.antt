use Rattle.tl_trace.proofs.Names.{ℕ, ◌+◌, ◌%◌, ◌++◌, ◌∷◌, [], List, arith, sym, ap, ◌∙◌, append_assoc, decimal_digit, decimal_step}
use Rattle.tl_trace.proofs.Decimals.{length_small, length_more}
use Rattle.tl_trace.proofs.text.+put_decimal.Goals as goal

pub put_byte-requires : goal.put_byte-requires
put_byte-requires t c = omega (arith, length_small c.args.value c.if-value-lt10.true, c.requires)

pub returns-then-value-lt10 : goal.returns-then-value-lt10
returns-then-value-lt10 t c = record {
  items = c.put_byte.ensures.items ∙ ap (λ (ds : List ℕ). c.args.text.now.items ++ ds) (sym (decimal_digit c.args.value c.if-value-lt10.true));
  len = omega (arith, length_small c.args.value c.if-value-lt10.true, c.put_byte.ensures.len);
}

pub put_decimal-requires : goal.put_decimal-requires
put_decimal-requires t c = (omega (arith, c.decreases), omega (arith, length_more c.args.value c.if-value-lt10.false (omega arith), c.requires))

pub put_byte-requires-2 : goal.put_byte-requires-2
put_byte-requires-2 t c = omega (arith, length_more c.args.value c.if-value-lt10.false (omega arith), c.requires, c.put_decimal.ensures.len)

pub returns : goal.returns
returns t c = record {
  items = c.put_byte-2.ensures.items ∙ ap (λ (xs : List ℕ). xs ++ (48 + c.args.value % 10) ∷ []) c.put_decimal.ensures.items
      ∙ append_assoc c.args.text.now.items _ ((48 + c.args.value % 10) ∷ [])
      ∙ ap (λ (ds : List ℕ). c.args.text.now.items ++ ds) (sym (decimal_step c.args.value c.if-value-lt10.false (omega arith)));
  len = omega (arith, length_more c.args.value c.if-value-lt10.false (omega arith), c.put_decimal.ensures.len, c.put_byte-2.ensures.len);
}
