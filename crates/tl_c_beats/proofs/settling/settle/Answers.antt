use Rattle.tl_sides.proofs.SameSides.{same_client_then, same_manager_then, still_sides}
use Rattle.tl_c_beats.proofs.Rounds.{met_known, client_stays, manager_stays, settles_then}
use Rattle.tl_c_beats.proofs.settling.settle.Goals as goal

pub rounds-init : goal.rounds-init
rounds-init g c =
    let met = c.meet_sides.ensures in
    record {
      sides = record { a = met.a.pair; b = met.b.pair; c = met.c.pair; d = met.d.pair; e = met.e.pair };
      known = record { a = met_known met.a; b = met_known met.b; c = met_known met.c; d = met_known met.d; e = met_known met.e };
      client = record { a = met.a.send; b = met.b.take; c = met.c.send; d = met.d.take; e = met.e.send };
      manager = record { a = met.a.take; b = met.b.send; c = met.c.take; d = met.d.send; e = met.e.take };
      settled = λ x y client manager. record {
        client = x;
        manager = y;
        client_went = client_stays x;
        manager_went = manager_stays y;
        meets = met.meets x y client manager;
      };
    }

pub returns-then-is_still-clause-client : goal.returns-then-is_still-clause-client
returns-then-is_still-clause-client g c = same_client_then _ _ _ c.rounds.invariant.client c.round-moved.ensures.client

pub returns-then-is_still-clause-manager : goal.returns-then-is_still-clause-manager
returns-then-is_still-clause-manager g c = same_manager_then _ _ _ c.rounds.invariant.manager c.round-moved.ensures.manager

pub returns-then-is_still-clause-settled : goal.returns-then-is_still-clause-settled
returns-then-is_still-clause-settled g c = λ x y client manager.
    settles_then (c.rounds.invariant.settled x y client manager) c.round-moved.ensures.went

pub returns-then-is_still-clause-known : goal.returns-then-is_still-clause-known
returns-then-is_still-clause-known g c = c.round-moved.ensures.known

pub returns-then-is_still-clause-still : goal.returns-then-is_still-clause-still
returns-then-is_still-clause-still g c =
    c.round-moved.ensures.still c.if-is_still.true

pub rounds-preserved : goal.rounds-preserved
rounds-preserved g c =
    let before = c.rounds.invariant in
    let round = c.round-moved.ensures in
    record {
      sides = still_sides _ _ _ _ round.client round.manager before.sides;
      known = round.known;
      client = same_client_then _ _ _ before.client round.client;
      manager = same_manager_then _ _ _ before.manager round.manager;
      settled = λ x y client manager. settles_then (before.settled x y client manager) round.went;
    }
