use Rattle.tl_trace.proofs.Names.{◌≡◌, ◌+◌, false, length, sym, ◌∙◌, slice_range, is_err, line_length}
use Rattle.tl_trace.proofs.KnownHeads.{beat_is, line_head}
use Rattle.tl_trace.proofs.LineParts.{line_size, rest_of}
use Rattle.tl_trace.proofs.NextLine.{line_places, rest_room, was_put, was_kept, first_in, at_most}
use Rattle.tl_trace.proofs.ReadDigits.{range_long, zero_are, zero_number, zero_bits}
use Rattle.tl_trace.proofs.script_reader.push_line.Goals as goal

pub returns-then-is_err : goal.returns-then-is_err
returns-then-is_err g c = was_kept c.push.result _ _ _ (sym c.is_err.ensures.value ∙ c.if-is_err.true) c.push.ensures.items

pub read_rest-rest-requires : goal.read_rest-rest-requires
read_rest-rest-requires g c =
    let long = c.head_end-rest_at.result + c.rest_len.result in
    let in_text = line_places c.args.at _ _ _ _ c.head_end-rest_at.ensures.end c.if-long-text.false in
    record {
      width = at_most g.row.W;
      most = c.requires.0.width;
      room = rest_room c.head_end-rest_at.result _ _ c.rest_len.result _ c.rest_len.ensures.long
          (range_long c.args.text.now c.args.at long in_text.2);
      bytes = zero_are g.row.W;
      zero = zero_number g.row.W;
    }

pub returns : goal.returns
returns g c =
    let f = g.K.HeadText.form g.row.VERSION in
    let has_mask = g.met.K.HeadText.masked_form g.row.VERSION ∙ sym c.MASKED-masked.ensures in
    let has_datas = g.met.K.HeadText.data_form g.row.VERSION ∙ sym c.HAS_DATA-has_data.ensures in
    let heads = g.met.K.ReadHead.head_alone g.row.VERSION in
    let long = c.head_end-rest_at.result + c.rest_len.result in
    let some = c.head_end-rest_at.ensures.end in
    let size = line_size f g.row.W _ _ _ _ has_mask has_datas heads some c.rest_len.ensures.long in
    let in_text = line_places c.args.at _ _ _ _ some c.if-long-text.false in
    let first = first_in c.args.text.now c.args.at long in_text.0 c.requires.0.inside in
    let all : length (slice_range c.args.text.now c.args.at (c.args.at + long)) ≡ line_length f g.row.W =
    range_long c.args.text.now c.args.at long in_text.2 ∙ size in
    let head = line_head f g.row.VERSION c.args.text.now c.args.at long c.args.head in_text.1 c.requires.1 in
    let went : is_err c.push.result ≡ false = sym c.is_err.ensures.value ∙ c.if-is_err.false in
    record {
      beat = _;
      from = in_text.3;
      to = in_text.4;
      stop = c.if-text-at-ne10.false;
      read = beat_is f g.row.VERSION g.row.W _ c.args.head _ c.read_rest-rest.new.lanes c.read_rest-rest.result c.head_end-rest_at.result heads
          (first ∙ c.requires.0.letter) all some head (rest_of f _ _ has_mask has_datas c.read_rest-rest.ensures) (zero_bits g.row.W)
          c.if-rest-gt15.false (sym c.are_in_range.ensures ∙ c.if-not-are_in_range.false);
      put = was_put c.push.result _ _ _ went c.push.ensures.items;
    }
