use Rattle.tl_stream.proofs.Names.{◌∙◌, ap, arith, length, refl, sym, with_items_is}
use Rattle.std.specs.Vec.{with_items}
use Rattle.tl_stream.proofs.Filling.{memory-not-long, named-fault, no-fault, opened, opened-long, read-kinds}
use Rattle.tl_stream.specs.Inner.Filling.{IsReadFault}
use Rattle.tl_stream.proofs.input.Input.open.Goals as goal

pub returns-in-Ok-fill : goal.returns-in-Ok-fill
returns-in-Ok-fill g c =
    let buffer = c.in-Ok.buffer in
    let room = c.fill.new.room in
    let to = c.in-Ok-fill.to in
    let size = c.fill.auto.room ∙ ap length c.as_mut_slice.ensures.value in
    let put = with_items_is buffer room (size ∙ sym buffer.ok.0) in
    record {
      ok = opened _ _ room to c.in-Ok-fill.ensures (omega (arith, size, c.in-Ok.ensures))
          (record { buffer = with_items buffer room; from = 0; to = to; total = to }) put refl refl refl;
      first = refl;
      size = ap length put ∙ size ∙ c.in-Ok.ensures;
      long = no-fault;
      kinds = tt;
    }

pub returns-in-Err : goal.returns-in-Err
returns-in-Err g c = record {
  ok = tt;
  first = tt;
  size = tt;
  long = λ e. opened-long _ _ (named-fault (IsReadFault _) c.in-Err.fault _ c.in-Err.ensures e);
  kinds = λ no long. absurd (long (read-kinds _ c.in-Err.fault c.in-Err.ensures no));
}

pub returns-in_default : goal.returns-in_default
returns-in_default g c = record { ok = tt; first = tt; size = tt; long = memory-not-long; kinds = λ no long. refl }
