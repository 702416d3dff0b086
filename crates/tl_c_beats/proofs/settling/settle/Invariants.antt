use Rattle.tl_sides.specs.Sides.{ClientPast, ManagerPast, ClientStandsFor, ManagerStandsFor, AreSides, SameClient, SameManager}
use Rattle.tl_c_beats.specs.Settling.{KnownSides, SidesSettle, all_moves_left}
use Rattle.tl_c_beats.proofs.settling.settle.Given as goal

abbrev pub invariant-rounds : goal.invariant-rounds
invariant-rounds g l = record {
  sides : AreSides l.client l.manager;
  known : KnownSides l.client l.manager;
  client : SameClient l.fn.client l.client;
  manager : SameManager l.fn.manager l.manager;
  settled : (x : ClientPast g.row.C g.row.M) (y : ManagerPast g.row.C g.row.M) → ClientStandsFor l.fn.client x → ManagerStandsFor l.fn.manager y →
      SidesSettle l.client l.manager x y;
}

abbrev pub decreases-rounds : goal.decreases-rounds
decreases-rounds g l = all_moves_left l.client l.manager
