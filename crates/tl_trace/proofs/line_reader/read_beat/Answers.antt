use Rattle.tl_trace.proofs.Names.{arith, sym, ◌∙◌, is_head_in_range, HasHead}
use Rattle.tl_trace.proofs.Shaped.{wrong_length}
use Rattle.tl_trace.proofs.ReadDigits.{left_good, right_good, zero_are, zero_number, zero_bits}
use Rattle.tl_trace.proofs.Ids.{four_digits}
use Rattle.tl_trace.proofs.KnownHeads.{beat_is}
use Rattle.tl_trace.proofs.LineParts.{line_size, no_head, no_range, no_shape, out_fields, was_read}
use Rattle.tl_trace.proofs.line_reader.read_beat.Goals as goal

pub returns-then-fields-rest-gt15 : goal.returns-then-fields-rest-gt15
returns-then-fields-rest-gt15 g c =
    let f = g.K.HeadText.form g.row.VERSION in
    let has_mask = g.met.K.HeadText.masked_form g.row.VERSION ∙ sym c.MASKED-masked.ensures in
    let has_datas = g.met.K.HeadText.data_form g.row.VERSION ∙ sym c.HAS_DATA-has_data.ensures in
    let line = was_read f _ _ _ _ has_mask has_datas (g.met.K.ReadHead.head_alone g.row.VERSION) c.head_end-rest_at.ensures.end
    c.rest_len.ensures.long c.if-text-rest_at.false c.read_head-fields.ensures c.read_rest-rest.ensures in
    no_shape f line c.if-fields-rest-gt15.true

pub returns-in_default : goal.returns-in_default
returns-in_default g c =
    let f = g.K.HeadText.form g.row.VERSION in
    let has_mask = g.met.K.HeadText.masked_form g.row.VERSION ∙ sym c.MASKED-masked.ensures in
    let has_datas = g.met.K.HeadText.data_form g.row.VERSION ∙ sym c.HAS_DATA-has_data.ensures in
    let line = was_read f _ _ _ _ has_mask has_datas (g.met.K.ReadHead.head_alone g.row.VERSION) c.head_end-rest_at.ensures.end
    c.rest_len.ensures.long c.if-text-rest_at.false c.read_head-fields.ensures c.read_rest-rest.ensures in
    no_range f line c.if-fields-rest-gt15.false (no_head f c.read_head-fields.result _ _
    (c.in_default.ensures g.row.VERSION (c.read_head-fields.ensures.small (left_good _ _ c.if-fields-rest-gt15.false))))

pub returns-then-not-are_in_range : goal.returns-then-not-are_in_range
returns-then-not-are_in_range g c =
    let f = g.K.HeadText.form g.row.VERSION in
    let has_mask = g.met.K.HeadText.masked_form g.row.VERSION ∙ sym c.MASKED-masked.ensures in
    let has_datas = g.met.K.HeadText.data_form g.row.VERSION ∙ sym c.HAS_DATA-has_data.ensures in
    let line = was_read f _ _ _ _ has_mask has_datas (g.met.K.ReadHead.head_alone g.row.VERSION) c.head_end-rest_at.ensures.end
    c.rest_len.ensures.long c.if-text-rest_at.false c.read_head-fields.ensures c.read_rest-rest.ensures in
    no_range f line c.if-fields-rest-gt15.false
    (out_fields (is_head_in_range f c.read_head-fields.result) _ _ (sym c.are_in_range.ensures ∙ c.if-not-are_in_range.true))

pub returns : goal.returns
returns g c =
    let f = g.K.HeadText.form g.row.VERSION in
    let has_mask = g.met.K.HeadText.masked_form g.row.VERSION ∙ sym c.MASKED-masked.ensures in
    let has_datas = g.met.K.HeadText.data_form g.row.VERSION ∙ sym c.HAS_DATA-has_data.ensures in
    let line = was_read f _ _ _ _ has_mask has_datas (g.met.K.ReadHead.head_alone g.row.VERSION) c.head_end-rest_at.ensures.end
    c.rest_len.ensures.long c.if-text-rest_at.false c.read_head-fields.ensures c.read_rest-rest.ensures in
    let good = left_good _ _ c.if-fields-rest-gt15.false in
    let head : HasHead f g.row.VERSION c.args.text.now c.in-Some.head =
    record {
      fields = c.read_head-fields.result;
      read = c.read_head-fields.ensures;
      good = good;
      is = c.in-Some.ensures g.row.VERSION (c.read_head-fields.ensures.small good);
    } in
    beat_is f g.row.VERSION c.args.w c.args.text.now c.in-Some.head _ c.read_rest-rest.new.lanes c.read_rest-rest.result
    c.head_end-rest_at.result line.heads c.requires.letter line.long line.first head line.behind (zero_bits g.row.N)
    (right_good _ _ c.if-fields-rest-gt15.false) (sym c.are_in_range.ensures ∙ c.if-not-are_in_range.false)

pub returns-then-text-rest_at : goal.returns-then-text-rest_at
returns-then-text-rest_at g c =
    let f = g.K.HeadText.form g.row.VERSION in
    let has_mask = g.met.K.HeadText.masked_form g.row.VERSION ∙ sym c.MASKED-masked.ensures in
    let has_datas = g.met.K.HeadText.data_form g.row.VERSION ∙ sym c.HAS_DATA-has_data.ensures in
    let size = line_size f c.args.w _ _ _ _ has_mask has_datas (g.met.K.ReadHead.head_alone g.row.VERSION) c.head_end-rest_at.ensures.end
    c.rest_len.ensures.long in
    wrong_length f c.args.w c.args.text.now (λ is. c.if-text-rest_at.true (is ∙ sym size))

pub head_of-requires : goal.head_of-requires
head_of-requires g c =
    four_digits g.row.VERSION c.read_head-fields.result (c.read_head-fields.ensures.small (left_good _ _ c.if-fields-rest-gt15.false))

pub read_rest-rest-requires : goal.read_rest-rest-requires
read_rest-rest-requires g c = record {
  width = c.requires.width;
  most = c.requires.most;
  room = omega (arith, c.rest_len.ensures.long, c.if-text-rest_at.false);
  bytes = zero_are g.row.N;
  zero = zero_number g.row.N;
}
