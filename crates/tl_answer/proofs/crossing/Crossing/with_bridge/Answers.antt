use Rattle.tl_answer.proofs.Names.{CanRun, HasRun, HasLines}
use Rattle.tl_answer.proofs.Consuming.{new-goes, short-lists}
use Rattle.tl_answer.proofs.crossing.Crossing.with_bridge.Goals as goal

pub returns : goal.returns
returns g c = λ s few.
    let far = c.args.far in
    let run = c.new-run.result in
    let new = c.new-run.ensures in
    record {
      version_is = c.requires.4;
      goes = new-goes (CanRun run) (λ beats. HasRun HasLines beats far run) run.discarded new.none s (new.begins s (short-lists s few))
          (λ beats. c.a_new_run_has_run.ensures beats (new.running beats) c.requires.3);
    }
