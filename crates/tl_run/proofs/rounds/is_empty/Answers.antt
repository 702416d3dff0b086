use Rattle.tl_run.proofs.Emptiness.{none, none-of-both}
use Rattle.tl_run.proofs.rounds.is_empty.Goals as goal

pub returns : goal.returns
returns c = let s = c.args.standing.now in none-of-both (none-of-both (none s.staged) (none s.in_ring)) (none s.inbox)
