use Rattle.tl_stream.proofs.Names.{◌+◌, ◌-◌, ◌∙◌, length, refl, sym, ap, with_items_is}
use Rattle.std.specs.Vec.{with_items}
use borrow.Rule.Slice.PartMut.{put_mid}
use Rattle.tl_stream.proofs.Filling.{named-fault, no-fault, no-less, part-fits, put_size, read-some, read-kinds, refilled-long, refilled-taken}
use Rattle.tl_stream.proofs.Filling.{room_size}
use Rattle.tl_stream.specs.Inner.Filling.{IsReadFault}
use Rattle.tl_stream.proofs.input.Input.refill.Goals as goal

pub returns-in-Ok : goal.returns-in-Ok
returns-in-Ok g c =
    let input = c.args.self.now in
    let kept = input.to - input.from in
    let moved = c.copy_within.new.self in
    let room = c.fill.new.room in
    let slice = c.as_mut_slice-buffer.ensures.value in
    let len = c.copy_within.ensures.len in
    let long = ap length slice in
    let size_room = c.fill.auto.room ∙ room_size kept moved in
    let buffer = put_mid kept (length moved - kept) moved room in
    let fits = part-fits input.to input.from _ (length moved) c.requires.to (len ∙ long) in
    let size = put_size kept moved room fits size_room ∙ len ∙ long in
    let put = with_items_is input.buffer buffer (size ∙ sym input.buffer.ok.0) in
    let now = ap length put in
    record {
      ok = λ unread used h. refilled-taken unread _ _ used input h _ moved room c.in-Ok.read slice len c.copy_within.ensures.after size_room
          c.in-Ok.ensures
          (record { buffer = with_items input.buffer buffer; from = 0; to = kept + c.in-Ok.read; total = input.total + c.in-Ok.read })
          put refl refl refl;
      from = refl;
      size = now ∙ size;
      more = no-less input.total c.in-Ok.read;
      grown = λ full part. read-some kept c.in-Ok.read _ _ input.total full part (now ∙ size);
      long = λ unread used h e. no-fault e;
      kinds = tt;
    }

pub returns-in-Err : goal.returns-in-Err
returns-in-Err g c = record {
  ok = λ unread used h. tt;
  from = tt;
  size = tt;
  more = tt;
  grown = tt;
  long = λ unread used h e. refilled-long unread _ _ used c.args.self.now h (named-fault (IsReadFault _) c.in-Err.fault _ c.in-Err.ensures e);
  kinds = read-kinds _ c.in-Err.fault c.in-Err.ensures;
}
