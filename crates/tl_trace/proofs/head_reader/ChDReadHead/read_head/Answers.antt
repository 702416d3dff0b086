use Rattle.tl_trace.proofs.Names.{◌≡◌, ◌+◌, ◌∷◌, ◌++◌, [], ℕ, subst, arith, common, length_of, sink, denied, id_digits, IsNumber}
use Rattle.tl_trace.proofs.ReadDigits.{left_good, right_good}
use Rattle.tl_trace.proofs.LineParts.{and_field}
use Rattle.tl_trace.proofs.head_reader.ChDReadHead.read_head.Goals as goal

pub returns : goal.returns
returns c =
    let fields = c.read_common-common in
    let k = c.field-sink in
    let n = c.field-denied in
    let digits = id_digits c.args.version in
    let Id : ℕ → Type 0 = λ n. IsNumber c.args.text.now c.common_end-sink_at.result n k.result.value k.result.bad in
    let id = subst Id c.id_digits-digits.ensures.digits k.ensures in
    let five =
    and_field 0 c.args.text.now 1 c.common_end-sink_at.result _ _ _ (sink digits) k.result.value k.result.bad
    c.common_end-sink_at.ensures.end fields.ensures.part
    id in
    let at = c.common_end-sink_at.result + 1 + c.id_digits-digits.result in
    let there : at ≡ 1 + length_of 0 (common c.args.version ++ sink digits ∷ []) =
    omega (arith, c.common_end-sink_at.ensures.end, c.id_digits-digits.ensures.digits) in
    record {
      part = and_field 0 c.args.text.now 1 at _ _ _ denied n.result.value n.result.bad there five n.ensures;
      small = λ le.
          let five_good = left_good _ n.result.bad le in
          let s = fields.ensures.small (left_good _ k.result.bad five_good) in
          record {
            size = s.size;
            source = s.source;
            address = s.address;
            sink = id.small (right_good _ k.result.bad five_good);
            opcode = s.opcode;
            param = s.param;
          };
    }
