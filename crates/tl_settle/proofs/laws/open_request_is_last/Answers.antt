use Rattle.tl_settle.proofs.LastOpen.{open_is_last, last_is_open, busy_is_unanswered, unanswered_is_busy}
use Rattle.tl_settle.proofs.laws.open_request_is_last.Goals as goal

pub returns : goal.returns
returns start = record {
  request = λ s ms h. (open_is_last s ms h, last_is_open s ms h);
  busy = λ s ms. (busy_is_unanswered s ms, unanswered_is_busy s ms);
}
