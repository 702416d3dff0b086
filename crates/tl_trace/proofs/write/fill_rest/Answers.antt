use Rattle.tl_trace.proofs.Names.{Bool, ap, arith, bit}
use Rattle.tl_trace.proofs.LineText.{a_part, bit_byte, no_part, data_put, three_put}
use Rattle.tl_trace.specs.Inner.LineRests.{data_length}
use Rattle.tl_trace.proofs.write.fill_rest.Goals as goal

pub fill_mask-mask-requires : goal.fill_mask-mask-requires
fill_mask-mask-requires g c = record { width = c.requires.width; room = omega (arith, c.requires.room) }

pub returns-then-not-has_data : goal.returns-then-not-has_data
returns-then-not-has_data g c = record {
  items = three_put _ _ _ _ _ _ _ c.fill_mask-mask.ensures.items (no_part _ _ _ c.if-not-has_data.true) c.fill.ensures.items;
  end = omega (arith, ap (λ (t : Bool). data_length t c.args.w) c.if-not-has_data.true, c.fill_mask-mask.ensures.end, c.fill.ensures.end);
}

pub fill_lanes-lanes-requires-clause-room : goal.fill_lanes-lanes-requires-clause-room
fill_lanes-lanes-requires-clause-room g c =
    omega (
      arith,
      ap (λ (t : Bool). data_length t c.args.w) c.if-not-has_data.false,
      c.requires.room,
      c.fill_mask-mask.ensures.end,
      c.fill_mask-mask.auto.line,
    )

pub fill_field-data-requires : goal.fill_field-data-requires
fill_field-data-requires g c =
    omega (
      arith,
      ap (λ (t : Bool). data_length t c.args.w) c.if-not-has_data.false,
      c.requires.room,
      c.fill_mask-mask.ensures.end,
      c.fill_mask-mask.auto.line,
      c.fill_lanes-lanes.ensures.end,
      c.fill_lanes-lanes.auto.line,
    )

pub returns : goal.returns
returns g c =
    let behind = ap (λ (t : Bool). data_length t c.args.w) c.if-not-has_data.false in
    record {
      items = three_put _ _ _ _ _ _ _ c.fill_mask-mask.ensures.items
          (a_part _ _ _ _ c.if-not-has_data.false (data_put _ _ _ (bit c.args.beat.now.corrupt) _ _ (bit_byte c.args.beat.now.corrupt)
          c.fill_lanes-lanes.ensures.items c.fill_field-data.ensures.items))
          c.fill-2.ensures.items;
      end = omega (
        arith,
        behind,
        c.fill_mask-mask.ensures.end,
        c.fill_lanes-lanes.ensures.end,
        c.fill_field-data.ensures.end,
        c.fill-2.ensures.end,
      );
    }
