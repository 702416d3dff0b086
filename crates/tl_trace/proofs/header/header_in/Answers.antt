use Rattle.tl_trace.proofs.Names.{ap, sym, ◌∙◌, bytes_eq}
use Rattle.tl_trace.proofs.Headers.{shifted_at, found, passed, not_found}
use Rattle.tl_trace.proofs.header.header_in.Goals as goal

pub returns-then-eq : goal.returns-then-eq
returns-then-eq c =
    let is = ap (bytes_eq c.args.text.now) (sym (c.as_slice.ensures.value ∙ c.header_text.ensures)) ∙ sym c.eq.ensures ∙ c.if-eq.true in
    sym (found c.args.text.now c.args.version c.loop-i.i _ c.loop-i.invariant
    (shifted_at c.args.version c.width_count-widths.result c.loop-i.i c.width_count-widths.ensures.count c.width_count-widths.ensures.few
    c.loop-i-test.true) is)

pub loop-i-preserved : goal.loop-i-preserved
loop-i-preserved c =
    let is = ap (bytes_eq c.args.text.now) (sym (c.as_slice.ensures.value ∙ c.header_text.ensures)) ∙ sym c.eq.ensures ∙ c.if-eq.false in
    passed c.args.text.now c.args.version c.loop-i.i _ c.loop-i.invariant
    (shifted_at c.args.version c.width_count-widths.result c.loop-i.i c.width_count-widths.ensures.count c.width_count-widths.ensures.few
    c.loop-i-test.true) is

pub returns : goal.returns
returns c =
    sym (not_found c.args.text.now c.args.version c.width_count-widths.result c.loop-i.i c.width_count-widths.ensures.count c.loop-i-test.false
    c.loop-i.invariant)
