use Rattle.std.proofs.Common.{inl}
use Rattle.tl_bridge.proofs.Words.{near_beats}
use Rattle.tl_bridge.specs.Inner.Sides.{none_ready}
use Rattle.tl_bridge.proofs.SidePlays.{played-first, played-then}
use Rattle.tl_bridge.proofs.turns.play.Goals as goal

pub returns-then-not-played : goal.returns-then-not-played
returns-then-not-played g c = record {
  played = played-first g.S.PlaysRounds.playing (near_beats c.args.script.now) c.args.at.now c.args.side.now c.take_each.new.self c.turn-played.new.self
      c.turn-played.result c.take_each.ensures c.turn-played.ensures;
  passed = c.pass.ensures.passed;
}

pub turns-init : goal.turns-init
turns-init g c =
    let may = c.requires.2 in
    let played = played-first g.S.PlaysRounds.playing (near_beats c.args.script.now) c.args.at.now c.args.side.now c.take_each.new.self
    c.turn-played.new.self c.turn-played.result c.take_each.ensures c.turn-played.ensures in
    (played, c.if-not-played.false, (played.is_at may.round none_ready may.is_at may.due).0)

pub turns-preserved : goal.turns-preserved
turns-preserved g c =
    let may = c.requires.2 in
    let i = c.turns.invariant in
    let played = played-then g.S.PlaysRounds.playing (near_beats c.args.script.now) c.args.at.now c.args.side.now c.turns.side
    c.turn-last.new.self c.turns.played c.turn-last.result c.then-played.result i.0 i.1
    c.turn-last.ensures c.then-played.ensures.at c.then-played.ensures.offers c.then-played.ensures.moved in
    (played, c.then-played.ensures.moved.1 (inl i.1), (played.is_at may.round none_ready may.is_at may.due).0)

pub returns : goal.returns
returns g c = record { played = c.turns.invariant.0; passed = c.pass.ensures.passed }

pub returns-then-not-last : goal.returns-then-not-last
returns-then-not-last g c = let i = c.turns.invariant in record {
  played = played-then g.S.PlaysRounds.playing (near_beats c.args.script.now) c.args.at.now c.args.side.now c.turns.side c.turn-last.new.self c.turns.played
      c.turn-last.result c.then-played.result i.0 i.1
      c.turn-last.ensures c.then-played.ensures.at c.then-played.ensures.offers c.then-played.ensures.moved;
  passed = c.pass.ensures.passed;
}
