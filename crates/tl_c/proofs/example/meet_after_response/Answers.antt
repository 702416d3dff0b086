use Rattle.tl_c.proofs.Responding.{shown}
use Rattle.tl_c.proofs.example.meet_after_response.Goals as goal

pub returns : goal.returns
returns c =
    let met = c.tl_meet.ensures in
    record {
      headline = λ x y asked first request response client manager xs ys not zero.
          shown _ _ _ x y asked first request response xs ys not (met.met x y client manager zero) (met.counts zero);
    }
