use Rattle.std.proofs.Common.{refl, arith}
use Rattle.tl_sides.specs.Ends.{pump_count}
use Rattle.tl_sides.specs.Sides.{client_pumps, manager_pumps}
use Rattle.tl_c_beats.proofs.Rounds.{AllTurned, all_turned, client_moves, manager_moves, still_sides}
use Rattle.tl_c_beats.proofs.settling.round.Given.{Over}
use Rattle.tl_c_beats.proofs.settling.round.Goals as goal

-- each side fits memory
pub pump-requires : goal.pump-requires
pump-requires g c = c.requires-raw.1.1.1.0

pub pump-requires-2 : goal.pump-requires-2
pump-requires-2 g c = c.requires-raw.1.1.1.1.0

pub fetch-requires : goal.fetch-requires
fetch-requires g c = c.requires-raw.1.1.1.0

pub fetch-requires-2 : goal.fetch-requires-2
fetch-requires-2 g c = c.requires-raw.1.1.1.1.0

pub overflow_add-pumped : goal.overflow_add-pumped
overflow_add-pumped g c = omega (arith, c.pump.ensures.most, c.pump-2.ensures.most)

pub overflow_add-fetched : goal.overflow_add-fetched
overflow_add-fetched g c = omega (arith, c.fetch.ensures.most, c.fetch-2.ensures.most)

pub overflow_add-result : goal.overflow_add-result
overflow_add-result g c = omega (arith, c.pump.ensures.most, c.pump-2.ensures.most, c.fetch.ensures.most, c.fetch-2.ensures.most)

pub meet_sides-standings-requires : goal.meet_sides-standings-requires
meet_sides-standings-requires g c =
    let pump = c.pump.ensures in
    let fetch = c.fetch.ensures in
    let x = client_moves c.args.client.now c.pump.new.self c.fetch.new.self pump.a pump.c pump.e pump.rest fetch.b fetch.d fetch.rest in
    let pump_2 = c.pump-2.ensures in
    let fetch_2 = c.fetch-2.ensures in
    let y = manager_moves c.args.manager.now c.pump-2.new.self c.fetch-2.new.self pump_2.b pump_2.d pump_2.rest
    fetch_2.a fetch_2.c fetch_2.e fetch_2.rest in
    (c.requires-raw.1.1.1.0, (c.requires-raw.1.1.1.1.0, still_sides x y c.requires.sides))

pub returns-clause-went : goal.returns-clause-went
returns-clause-went g c = λ x y client manager.
    let s = c.args.client.now in
    let s' = c.pump.new.self in
    let t = c.args.manager.now in
    let t' = c.pump-2.new.self in
    record {
      client = client_pumps s s' x;
      manager = manager_pumps t t' y;
      client_went = record { a = pump_count s.a s'.a; c = pump_count s.c s'.c; e = pump_count s.e s'.e; went = refl };
      manager_went = record { b = pump_count t.b t'.b; d = pump_count t.d t'.d; went = refl };
      meets = c.meet_sides-standings.ensures.meets _ _ (c.fetch.ensures.stands _ (c.pump.ensures.stands x client))
          (c.fetch-2.ensures.stands _ (c.pump-2.ensures.stands y manager));
    }

-- the round of all five
turns : (g : Over) (c : goal.After-meet_sides-standings g) →
    AllTurned c.args.client.now c.pump.new.self c.fetch.new.self c.meet_sides-standings.new.client
    c.args.manager.now c.pump-2.new.self c.fetch-2.new.self c.meet_sides-standings.new.manager
turns g c =
    let pump = c.pump.ensures in
    let fetch = c.fetch.ensures in
    let x = client_moves c.args.client.now c.pump.new.self c.fetch.new.self pump.a pump.c pump.e pump.rest fetch.b fetch.d fetch.rest in
    let pump_2 = c.pump-2.ensures in
    let fetch_2 = c.fetch-2.ensures in
    let y = manager_moves c.args.manager.now c.pump-2.new.self c.fetch-2.new.self pump_2.b pump_2.d pump_2.rest
    fetch_2.a fetch_2.c fetch_2.e fetch_2.rest in
    let met = c.meet_sides-standings.ensures in
    all_turned _ _ _ _ _ _ _ _ c.requires.known x y (record { a = met.a; b = met.b; c = met.c; d = met.d; e = met.e })

pub returns-clause-client : goal.returns-clause-client
returns-clause-client g c = (turns g c).client

pub returns-clause-manager : goal.returns-clause-manager
returns-clause-manager g c = (turns g c).manager

pub returns-clause-known : goal.returns-clause-known
returns-clause-known g c = (turns g c).known

pub returns-clause-fewer : goal.returns-clause-fewer
returns-clause-fewer g c =
    let fewer = (turns g c).fewer in
    let pumped = c.pump.ensures.total in
    let manager_pumped = c.pump-2.ensures.total in
    let fetched = c.fetch.ensures.total in
    let manager_fetched = c.fetch-2.ensures.total in
    omega (arith, fewer, pumped, manager_pumped, fetched, manager_fetched)

pub returns-clause-still : goal.returns-clause-still
returns-clause-still g c = λ none.
    let pumped = c.pump.ensures.total in
    let manager_pumped = c.pump-2.ensures.total in
    let fetched = c.fetch.ensures.total in
    let manager_fetched = c.fetch-2.ensures.total in
    (turns g c).still (omega (arith, none, pumped, manager_pumped, fetched, manager_fetched))

pub returns-clause-standing_a : goal.returns-clause-standing_a
returns-clause-standing_a g c = c.meet_sides-standings.ensures.standing_a

pub returns-clause-standing_b : goal.returns-clause-standing_b
returns-clause-standing_b g c = c.meet_sides-standings.ensures.standing_b

pub returns-clause-standing_c : goal.returns-clause-standing_c
returns-clause-standing_c g c = c.meet_sides-standings.ensures.standing_c

pub returns-clause-standing_d : goal.returns-clause-standing_d
returns-clause-standing_d g c = c.meet_sides-standings.ensures.standing_d

pub returns-clause-standing_e : goal.returns-clause-standing_e
returns-clause-standing_e g c = c.meet_sides-standings.ensures.standing_e
