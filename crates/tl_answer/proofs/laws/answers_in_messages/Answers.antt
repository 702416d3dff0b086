use Rattle.tl_answer.proofs.Names.{near}
use Rattle.tl_answer.proofs.laws.answers_in_messages.Goals as goal

pub returns : goal.returns
returns g c = λ text version lines told.
    let held = c.traces_have_beats.ensures version g.row.C g.row.M lines told.trace in
    c.ends_in_messages.ensures (near g.row.C g.row.M lines) (record { a = held.a; b = held.b; c = held.c; d = held.d; e = held.e })
