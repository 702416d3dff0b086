use Rattle.tl_trace.proofs.Names.{◌≡◌, ◌∙◌, ◌+◌, ◌++◌, false, length, sym, ap, arith, is_err, length-take-le, width_bounds}
use Rattle.std.proofs.lemmas.List.{with_items_is}
use borrow.Rule.Slice.PartMut.{same_len_mid}
use Rattle.tl_trace.specs.Inner.LineRests.{rest_text}
use Rattle.tl_trace.proofs.LineRests.{front, put_behind, put_place}
use Rattle.tl_trace.proofs.NextLine.{was_put}
use Rattle.tl_trace.proofs.write.append_line.Goals as goal

pub returns : goal.returns
returns g c =
    let went : is_err c.extend_from_slice.result ≡ false = sym c.is_err.ensures.value ∙ c.if-is_err.false in
    let s = c.as_mut_slice.result.now in
    let n = c.args.at + c.rest_len.result + 1 in
    let slice = c.as_mut_slice.ensures.value in
    let same = slice ∙ was_put c.extend_from_slice.result _ _ _ went c.extend_from_slice.ensures.items in
    let size = c.fill_rest.auto.line in
    let cut = length-take-le n c.args.other.now (omega (arith, c.rest_len.ensures.few, c.requires.1)) in
    let rest = rest_text c.args.masked c.args.has_data g.row.W c.args.beat.now in
    let long = same_len_mid c.len-start.result _ s c.fill_rest.new.line size in
    record {
      ok =
          with_items_is c.extend_from_slice.new.self _ (long ∙ ap length slice ∙ sym c.extend_from_slice.new.self.ok.0)
          ∙ put_behind s c.args.out.now.items _ c.fill_rest.new.line rest c.len-start.result c.args.at c.fill_rest.result
          same (c.len-start.ensures ∙ c.args.out.now.ok.0) size
          (omega (arith, cut, c.rest_len.ensures.long, c.fill_rest.ensures.end)) c.fill_rest.ensures.items
          ∙ ap (λ x. c.args.out.now.items ++ (x ++ rest)) (front c.args.at c.rest_len.result c.args.other.now);
      err = tt;
    }

pub rest_len-requires : goal.rest_len-requires
rest_len-requires g c = (width_bounds g.row.W c.requires.0).1

pub slice_bounds-fill_rest-start : goal.slice_bounds-fill_rest-start
slice_bounds-fill_rest-start g c =
    let went : is_err c.extend_from_slice.result ≡ false = sym c.is_err.ensures.value ∙ c.if-is_err.false in
    put_place c.as_mut_slice.result.now c.args.out.now.items _ c.len-start.result
    (c.as_mut_slice.ensures.value ∙ was_put c.extend_from_slice.result _ _ _ went c.extend_from_slice.ensures.items)
    (c.len-start.ensures ∙ c.args.out.now.ok.0)

pub slice_bounds-fill_rest-count : goal.slice_bounds-fill_rest-count
slice_bounds-fill_rest-count g c =
    let went : is_err c.extend_from_slice.result ≡ false = sym c.is_err.ensures.value ∙ c.if-is_err.false in
    put_place c.as_mut_slice.result.now c.args.out.now.items _ c.len-start.result
    (c.as_mut_slice.ensures.value ∙ was_put c.extend_from_slice.result _ _ _ went c.extend_from_slice.ensures.items)
    (c.len-start.ensures ∙ c.args.out.now.ok.0)
