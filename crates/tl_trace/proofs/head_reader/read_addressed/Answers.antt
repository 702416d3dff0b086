use Rattle.tl_trace.proofs.Names.{arith, address}
use Rattle.tl_trace.proofs.ReadDigits.{left_good, right_good}
use Rattle.tl_trace.proofs.LineParts.{and_field}
use Rattle.tl_trace.proofs.head_reader.read_addressed.Goals as goal

pub returns : goal.returns
returns c =
    let common = c.read_common-common in
    let a = c.field-address in
    record {
      part = and_field 0 c.args.text.now 1 c.common_end.result _ _ _ address a.result.value a.result.bad c.common_end.ensures.end
          common.ensures.part a.ensures;
      small = λ le.
          let s = common.ensures.small (left_good _ a.result.bad le) in
          record {
            size = s.size;
            source = s.source;
            address = omega (arith, a.ensures.small (right_good _ a.result.bad le));
            sink = s.sink;
            opcode = s.opcode;
            param = s.param;
          };
    }
