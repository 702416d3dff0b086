use Rattle.tl_run.proofs.Names.{◌≡◌, ◌∙◌, refl, beats_of, lengths}
use Rattle.tl_run.proofs.EndsIn.{counts-are, far-is, rounds-few}
use Rattle.tl_run.proofs.rounds.outcome_at.Goals as goal

pub returns-clause-outcome : goal.returns-clause-outcome
returns-clause-outcome g c = λ near s ended.
    let far = beats_of c.args.far in
    let end = c.args.end in
    let counts : record { a = c.len.result; b = c.len-2.result; c = c.len-3.result; d = c.len-4.result; e = c.len-5.result } ≡ lengths far =
    rw (
      c.len.ensures ∙ c.args.far.a.ok.0,
      c.len-2.ensures ∙ c.args.far.b.ok.0,
      c.len-3.ensures ∙ c.args.far.c.ok.0,
      c.len-4.ensures ∙
          c.args.far.d.ok.0,
      c.len-5.ensures ∙ c.args.far.e.ok.0,
    ) refl in
    c.outcome_of.ensures.ends near
    (c.verdicts_at-verdicts.ensures g.row.C g.row.M near far s end.rounds c.requires.client c.requires.manager counts ended)
    (rounds-few c.requires.client c.requires.manager near end.at far s end.stops end.rounds ended)
    (far-is c.requires.client c.requires.manager near end.at far s end.stops end.rounds ended)

pub returns-clause-counts : goal.returns-clause-counts
returns-clause-counts g c = λ near s ended.
    counts-are c.requires.client c.requires.manager near c.args.end.at (beats_of c.args.far) s c.args.end.stops c.args.end.rounds ended
