use Rattle.tl_ring.proofs.Names.{◌∙◌}
use Rattle.tl_ring.proofs.Answered.{some_first, none_first}
use Rattle.tl_ring.proofs.queue.Queue.pop_front.Goals as goal

pub as_slice-requires : goal.as_slice-requires
as_slice-requires g c = c.requires-raw.1

pub drop_front-requires : goal.drop_front-requires
drop_front-requires g c = (
  c.requires-raw.1,
  some_first c.args.self.now c.in_ok-item.field-0.now (rw c.as_slice.ensures.value at c.in_ok-item.ensures.value),
)

pub returns : goal.returns
returns g c =
    record { value = rw c.as_slice.ensures.value at c.in_ok-item.ensures.value; rest = c.drop_front.ensures }

pub returns-in_err-item : goal.returns-in_err-item
returns-in_err-item g c =
    record {
      value = c.from_residual.ensures ∙ rw c.as_slice.ensures.value at c.in_err-item.ensures.value;
      rest = none_first c.args.self.now (rw c.as_slice.ensures.value at c.in_err-item.ensures.value);
    }
