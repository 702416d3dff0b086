use Rattle.tl_trace.proofs.Names.{arith, decimal}
use Rattle.tl_trace.proofs.Decimals.{length_decimal}
use Rattle.tl_trace.proofs.LineText.{four_put}
use Rattle.tl_trace.proofs.write.put_fault.Goals as goal

pub put_decimal-requires : goal.put_decimal-requires
put_decimal-requires c = omega (arith, c.requires.room, c.put.ensures.len, length_decimal c.args.at (omega arith))

pub put_byte-requires : goal.put_byte-requires
put_byte-requires c = omega (arith, c.requires.room, c.put.ensures.len, c.put_decimal.ensures.len, length_decimal c.args.at (omega arith))

pub returns : goal.returns
returns c = record {
  items = four_put c.args.text.now.items c.args.word.now (decimal c.args.at) c.args.name.now _ _ _ _ _ c.put.ensures.items
      c.put_decimal.ensures.items c.put_byte.ensures.items c.as_bytes.ensures.value c.put-2.ensures.items;
  len = omega (
    arith,
    c.requires,
    c.put.ensures.len,
    c.put_decimal.ensures.len,
    c.put_byte.ensures.len,
    c.put-2.ensures.len,
    length_decimal c.args.at (omega arith),
  );
}

pub put-requires-2 : goal.put-requires-2
put-requires-2 c =
    omega (arith, c.requires, c.put.ensures.len, c.put_decimal.ensures.len, c.put_byte.ensures.len, length_decimal c.args.at (omega arith))
