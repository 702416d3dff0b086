use Rattle.tl_trace.proofs.Names.{◌++◌, ◌∙◌, refl, sym}
use Rattle.tl_trace.proofs.Names.{ap, arith, width_bounds, head_text, line_text, newline}
use Rattle.tl_trace.proofs.LineRests.{none_written, line_is, appended_none, appended_more, appended_all, appended_front, of_ok, of_err}
use Rattle.tl_trace.proofs.write.write_lines.Goals as goal

pub loop-beat-preserved : goal.loop-beat-preserved
loop-beat-preserved g c =
    let f = g.K.HeadText.form c.args.version in
    let b = c.beat-item.result in
    let head = c.change_head.ensures in (
      head.items,
      appended_more f g.row.W c.args.out.now.items c.loop-beat.out.items c.append_line.new.out.items _ c.args.beats.now c.len-start.result
          c.loop-beat.beat-index b c.loop-beat-test.true
          (line_is f g.row.W b _ _ _ _ (g.met.K.HeadText.masked_form c.args.version ∙ sym c.MASKED-masked.ensures)
          (g.met.K.HeadText.data_form c.args.version ∙ sym c.HAS_DATA-has_data.ensures)
          (g.met.K.HeadText.narrow_head c.args.version _ g.row.W b)
          (head.items ∙ ap (head_text f) head.head) refl
          ∙ ap (λ x. line_text f g.row.W x ++ newline) c.beat-item.is)
          (of_ok c.append_line.result (sym c.is_err-in-loop-beat.ensures.value ∙ c.if-is_err-2.false) c.append_line.ensures.ok)
          c.loop-beat.invariant.1,
    )

pub loop-beat-init : goal.loop-beat-init
loop-beat-init g c = (
  c.fill_head-at.ensures.items,
  appended_none (g.K.HeadText.form c.args.version) g.row.W c.args.out.now.items c.reserve.new.self.items c.len-start.result
      (omega (arith, c.len-start.ensures)) c.reserve.ensures.items,
)

pub returns-then-is_err-2 : goal.returns-then-is_err-2
returns-then-is_err-2 g c = record {
  ok = tt;
  err = c.truncate.ensures.items
      ∙ appended_front (g.K.HeadText.form c.args.version) g.row.W c.args.out.now.items c.loop-beat.out.items c.append_line.new.out.items _
      c.len-start.result
      (of_err c.append_line.result (sym c.is_err-in-loop-beat.ensures.value ∙ c.if-is_err-2.true) c.append_line.ensures.err)
      c.loop-beat.invariant.1;
}

pub returns : goal.returns
returns g c = record {
  ok = appended_all (g.K.HeadText.form c.args.version) g.row.W c.args.out.now.items c.loop-beat.out.items c.args.beats.now c.len-start.result
      c.loop-beat.beat-index c.loop-beat-test.false c.loop-beat.invariant.1;
  err = tt;
}

pub rest_len-requires : goal.rest_len-requires
rest_len-requires g c = (width_bounds g.row.W c.requires).1

pub returns-in_default : goal.returns-in_default
returns-in_default g c = record {
  ok = none_written (g.K.HeadText.form c.args.version) g.row.W c.args.out.now.items c.args.beats.now c.in_default.ensures.item.3;
  err = tt;
}
