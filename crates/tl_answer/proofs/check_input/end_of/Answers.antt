use Rattle.tl_answer.proofs.Names.{◌∙◌, ◌++◌, ap, far_header, is_done, list_all, report}
use Rattle.tl_answer.proofs.check_input.end_of.Goals as goal

pub returns-in-Ok : goal.returns-in-Ok
returns-in-Ok g c =
    let made = c.in-Ok.ensures in
    record {
      text = λ near ends has.
          c.of.ensures.text ∙ made.text ∙ ap (λ vs. far_header c.args.version g.row.C g.row.M ++ report vs) (c.end-verdicts.ensures near ends has);
      done = λ near ends has. c.of.ensures.done ∙ made.done ∙ ap (λ vs. list_all is_done vs) (c.end-verdicts.ensures near ends has);
      err = tt;
    }
