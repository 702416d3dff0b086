use Rattle.tl_answer.proofs.Names.{IfOk, ◌≡◌, ◌∙◌, subst, list_all, Beats, CanRun, HasRun, is_done, HasLines, all_of}
use Rattle.tl_answer.proofs.FarTexts.{answer-is}
use Rattle.tl_answer.proofs.Consuming.{are-end, has-all}
use Rattle.tl_answer.proofs.crossing.Crossing.end.Goals as goal

pub returns-in-Ok : goal.returns-in-Ok
returns-in-Ok g c =
    let was = c.args.self.now in
    let run = was.run in
    let Has : Beats g.row.C g.row.M → Type 0 = λ beats. HasRun HasLines beats was.far run in
    let ended = c.in-Ok.ensures in
    let made = c.into_answer.ensures in
    record {
      text = λ version discarded x.
          let near = all_of discarded c.args.last in
          let end = are-end (CanRun run) Has run.discarded discarded c.args.last x.goes in
          let has = has-all (CanRun run) Has run.discarded discarded c.args.last x.goes in
          answer-is c.into_answer.result c.handed_over.result _ version near c.in-Ok.verdicts c.handed_over.ensures
          (ended.same ∙ x.version_is) (ended.verdicts near end has) (ended.far near end has) (made.text g.row.C g.row.M);
      done = λ version discarded x.
          let near = all_of discarded c.args.last in
          let end = are-end (CanRun run) Has run.discarded discarded c.args.last x.goes in
          let has = has-all (CanRun run) Has run.discarded discarded c.args.last x.goes in
          subst (λ vs. IfOk c.into_answer.result (λ made. made.all_done ≡ list_all is_done vs)) (ended.verdicts near end has) made.done;
      err = made.err;
    }
