use Rattle.tl_trace.proofs.Names.{◌+◌, ◌-◌, ◌≤◌, ◌∙◌, length, sym, ap, arith, eqb-true, slice_range, w64, to_le_bytes}
use Rattle.tl_trace.proofs.ReadDigits.{range_long}
use Rattle.tl_trace.proofs.SameText.{one_word_more, last_word}
use Rattle.tl_trace.proofs.same_text.repeats_at.Goals as goal

pub loop-i-preserved : goal.loop-i-preserved
loop-i-preserved c =
    one_word_more (slice_range c.args.text.now c.args.at (c.args.at + c.args.len))
    (slice_range c.args.text.now c.args.before (c.args.before + c.args.len))
    c.loop-i.i (sym c.word.ensures ∙ ap (to_le_bytes w64) c.if-word.false ∙ c.word-in-loop-i.ensures) c.loop-i.invariant

pub returns : goal.returns
returns c same =
    let text = c.args.text.now in
    let within : c.args.at + c.args.len ≤ length text = omega (arith, c.if-len-text.false, c.requires.0) in
    let long = range_long text c.args.at c.args.len within in
    let long' = range_long text c.args.before c.args.len c.requires.1 in
    record {
      within = within;
      same = last_word (slice_range text c.args.at (c.args.at + c.args.len)) (slice_range text c.args.before (c.args.before + c.args.len))
          (c.args.len - 8) c.loop-i.i (omega (arith, c.if-len-lt-WORD.false, long)) (omega (arith, c.loop-i-test.false)) (long ∙ sym long')
          (sym c.word-2.ensures ∙ ap (to_le_bytes w64) (eqb-true c.word-2.result c.word-3.result same) ∙ c.word-3.ensures) c.loop-i.invariant;
    }
