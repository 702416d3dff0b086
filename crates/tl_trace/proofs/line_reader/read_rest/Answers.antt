use Rattle.tl_trace.proofs.Names.{◌+◌, arith, refl, sym, ◌∙◌, false≢true, number_of_lanes}
use Rattle.tl_trace.proofs.ReadDigits.{left_good, right_good, lanes_small, zero_small}
use Rattle.tl_trace.proofs.LineParts.{both_parts, data_part, data_room, fewer, mask_size_of, no_data}
use Rattle.tl_trace.specs.Inner.Reading.{fields_of_mask, fields_of_data, mask_values}
use Rattle.tl_trace.proofs.line_reader.read_rest.Goals as goal

pub returns-then-not-has_data : goal.returns-then-not-has_data
returns-then-not-has_data g c =
    let m = c.read_mask-mask in
    record {
      part = no_data c.args.w c.args.text.now c.args.at (number_of_lanes c.args.lanes.now) 0 m.result.bad (fields_of_mask c.args.masked)
          (mask_values c.args.masked m.result.value) c.args.has_data c.if-not-has_data.true m.ensures.part;
      bytes = c.requires.bytes;
      small = λ _. zero_small c.args.w (number_of_lanes c.args.lanes.now) c.requires.zero;
      no_mask = m.ensures.none;
      no_data = λ _. (refl, refl);
    }

pub lanes_field-bad-requires-clause-room : goal.lanes_field-bad-requires-clause-room
lanes_field-bad-requires-clause-room g c =
    fewer _ _ (data_room c.args.w (c.args.at + c.rest_len.result) _ c.args.has_data c.if-not-has_data.false
    (omega (arith, c.requires.room, c.rest_len.ensures.long)))

pub field-corrupt-requires-clause-room : goal.field-corrupt-requires-clause-room
field-corrupt-requires-clause-room g c =
    data_room c.args.w (c.args.at + c.rest_len.result) _ c.args.has_data c.if-not-has_data.false
    (omega (arith, c.requires.room, c.rest_len.ensures.long))

pub returns : goal.returns
returns g c =
    let m = c.read_mask-mask in
    let d = c.lanes_field-bad in
    let x = c.field-corrupt in
    let datas = data_part c.args.w c.args.text.now (c.args.at + c.rest_len.result) (number_of_lanes d.new.lanes) x.result.value d.result x.result.bad
    c.args.has_data c.if-not-has_data.false d.ensures.value x.ensures in
    record {
      part = both_parts c.args.w c.args.text.now c.args.at _ (fields_of_mask c.args.masked) (fields_of_data c.args.has_data) _ _ m.result.bad _
          (omega (arith, c.rest_len.ensures.long, mask_size_of c.args.w c.args.masked)) m.ensures.part datas;
      bytes = d.ensures.bytes;
      small = λ le. lanes_small c.args.w (number_of_lanes d.new.lanes) (d.ensures.value.small (left_good d.result x.result.bad (right_good _ _ le)));
      no_mask = m.ensures.none;
      no_data = λ none. absurd (false≢true (sym none ∙ c.if-not-has_data.false));
    }
