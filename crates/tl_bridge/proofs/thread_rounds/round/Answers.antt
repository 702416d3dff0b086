use Rattle.std.proofs.Common.{lit<}
use Rattle.tl_bridge.proofs.Words.{near_beats}
use denote.Param.{param, number}
use denote.Param.Send.{sendable}
use Rattle.tl_bridge.proofs.client_turns.ClientRun.TheSendSync as client
use Rattle.tl_bridge.proofs.manager_turns.ManagerRun.TheSendSync as manager
use Rattle.tl_bridge.proofs.SideSizes.{client_run_small, manager_run_small}
use Rattle.tl_bridge.proofs.Meeting.{both-played, client-may, manager-may}
use Rattle.tl_bridge.proofs.thread_rounds.round.Goals as goal

-- each side may be handed to a thread of its own
pub play_both-requires-send-X : goal.play_both-requires-send-X
play_both-requires-send-X g c = λ κs lives. let s = client.the_send (param 3 (number g.row.C)) (param 4 (number g.row.M)) in search sendable

pub play_both-requires-send-Y : goal.play_both-requires-send-Y
play_both-requires-send-Y g c = λ κs lives. let s = manager.the_send (param 3 (number g.row.C)) (param 4 (number g.row.M)) in search sendable

pub play_both-requires-room-X-PlaysRounds : goal.play_both-requires-room-X-PlaysRounds
play_both-requires-room-X-PlaysRounds g c = λ κs lives. client_run_small g.row.C g.row.M c.requires.0.client c.requires.0.manager

pub play_both-requires-room-Y-PlaysRounds : goal.play_both-requires-room-Y-PlaysRounds
play_both-requires-room-Y-PlaysRounds g c = λ κs lives. manager_run_small g.row.C g.row.M c.requires.0.client c.requires.0.manager

pub play_both-requires-after_bounds : goal.play_both-requires-after_bounds
play_both-requires-after_bounds g c = λ κs bounds. (
  lit< tt,
  (
    c.requires.0,
    c.requires.1,
    client-may c.requires.0.client c.requires.0.manager (near_beats c.args.script.now) c.requires.1 c.args.at.now c.args.client.now
        c.args.manager.now c.requires.3 c.requires.2,
    manager-may c.requires.0.client c.requires.0.manager (near_beats c.args.script.now) c.requires.1 c.args.at.now c.args.client.now
        c.args.manager.now c.requires.3 c.requires.2,
  ),
)

pub returns : goal.returns
returns g c = record {
  round = both-played c.requires.0.client c.requires.0.manager (near_beats c.args.script.now) c.args.at.now c.args.client.now c.args.manager.now
      c.requires.3 c.play_both.new.client c.play_both.new.manager
      c.play_both.result.0 c.play_both.result.1 c.play_both.ensures.client c.play_both.ensures.manager c.meet_sides-standings.new.client
      c.meet_sides-standings.new.manager
      c.meet_sides-standings.result
      (record {
        a = c.meet_sides-standings.ensures.a;
        b = c.meet_sides-standings.ensures.b;
        c = c.meet_sides-standings.ensures.c;
        d = c.meet_sides-standings.ensures.d;
        e = c.meet_sides-standings.ensures.e;
        in_a = c.meet_sides-standings.ensures.standing_a;
        in_b = c.meet_sides-standings.ensures.standing_b;
        in_c = c.meet_sides-standings.ensures.standing_c;
        in_d = c.meet_sides-standings.ensures.standing_d;
        in_e = c.meet_sides-standings.ensures.standing_e;
      })
      c.meet_sides-standings.ensures.meets c.beside.result c.beside.ensures.accepted.0 c.beside.ensures.at c.beside.ensures.offers;
  capacity = record {
    a = c.play_both.ensures.manager.same.1;
    b = c.play_both.ensures.client.same.1;
    c = c.play_both.ensures.manager.same.2;
    d = c.play_both.ensures.client.same.2;
    e = c.play_both.ensures.manager.same.3;
  };
  client_passed = c.play_both.ensures.client_passed;
  manager_passed = c.play_both.ensures.manager_passed;
}
