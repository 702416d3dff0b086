use Rattle.std.proofs.Common.{◌≡◌, true}
use Rattle.tl_parts.specs.Parts.{near_beats}
use Rattle.tl_run.specs.Inner.Running.{HaveRoomToCount}
use Rattle.tl_bridge.specs.Inner.Sides.{HasPlayedTurns}
use Rattle.tl_bridge.proofs.turns.play.Given as goal

abbrev pub invariant-turns : goal.invariant-turns
invariant-turns g l = HasPlayedTurns g.S.PlaysRounds.playing (near_beats l.script) l.at l.fn.side l.side l.played × (l.played.moved ≡ true) ×
    HaveRoomToCount l.played.at
