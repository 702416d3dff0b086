use Rattle.tl_run.proofs.Emptiness.{none-of-both}
use Rattle.tl_run.proofs.rounds.are_empty.Goals as goal

pub returns : goal.returns
returns c = none-of-both (none-of-both (none-of-both (none-of-both c.is_empty.ensures c.is_empty-2.ensures) c.is_empty-3.ensures)
    c.is_empty-4.ensures) c.is_empty-5.ensures
