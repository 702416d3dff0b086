use Rattle.tl_trace.proofs.Names.{◌∙◌, sym, ap, arith, w64, from_le_bytes}
use Rattle.tl_trace.proofs.SameText.{eight_items, word_bytes}
use Rattle.tl_trace.proofs.same_text.word.Goals as goal

pub returns : goal.returns
returns c =
    word_bytes c.args.text.now c.args.at c.from_le_bytes.result c.requires (λ k. omega (arith, c.type_inv.text k))
    (c.from_le_bytes.ensures ∙ ap (from_le_bytes w64) (sym (eight_items c.args.text.now c.args.at c.requires)))
