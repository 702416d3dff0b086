use Rattle.tl_run.proofs.Names.{◌+◌, ◌-◌, length, GoesOn, IsBetween}
use Rattle.tl_run.proofs.ahead.go_ahead.Given as goal

abbrev pub invariant-beats : goal.invariant-beats
invariant-beats g l = record {
  within : IsBetween l.discarded l.at (length l.held.items);
  goes : GoesOn g.S.Offers.Becomes g.S.Forward.Passes l.discarded l.held.items l.fn.at l.fn.side l.at l.side;
}

abbrev pub decreases-beats : goal.decreases-beats
decreases-beats g l = l.discarded + length l.held.items - l.at
