use Rattle.tl_trace.proofs.Names.{ℕ, refl, subst, arith, opcode, param, size, source, id_digits, IsNumber}
use Rattle.tl_trace.proofs.Ids.{id_limits}
use Rattle.tl_trace.proofs.ReadDigits.{left_good, right_good}
use Rattle.tl_trace.proofs.LineParts.{number_part, and_field}
use Rattle.tl_trace.proofs.head_reader.read_common.Goals as goal

pub returns : goal.returns
returns c =
    let text = c.args.text.now in
    let o = c.field-opcode in
    let p = c.field-param in
    let z = c.field-size in
    let s = c.field-source in
    let Id : ℕ → Type 0 = λ k. IsNumber text 7 k s.result.value s.result.bad in
    let id = subst Id c.id_digits.ensures.digits s.ensures in
    let one = number_part 0 text 1 opcode o.result.value o.result.bad o.ensures in
    let two = and_field 0 text 1 3 _ _ o.result.bad param p.result.value p.result.bad refl one p.ensures in
    let three = and_field 0 text 1 5 _ _ _ size z.result.value z.result.bad refl two z.ensures in
    let four = and_field 0 text 1 7 _ _ _ (source (id_digits c.args.version)) s.result.value s.result.bad refl three id in
    record {
      part = four;
      small = λ le.
          let three_good = left_good _ s.result.bad le in
          let two_good = left_good _ z.result.bad three_good in
          record {
            size = z.ensures.small (right_good _ z.result.bad three_good);
            source = id.small (right_good _ s.result.bad le);
            address = omega arith;
            sink = (id_limits c.args.version).0;
            opcode = o.ensures.small (left_good _ p.result.bad two_good);
            param = p.ensures.small (right_good _ p.result.bad two_good);
          };
    }
