use Rattle.std.specs.Prelude.{List}
use Rattle.tl_msg.specs.declared.head.HeadA.{HeadA}
use Rattle.tl_msg.specs.declared.beat.BeatOf.{BeatOf}
use Rattle.tl_ring.specs.Ends.{SameTake, Takes}
use Rattle.bridge_tests.proofs.ring.headline.take_one.Given as goal

abbrev pub invariant-loop : goal.invariant-loop
invariant-loop l = SameTake l.fn.take l.take × ((taken : List (BeatOf HeadA 4)) → Takes l.fn.take taken → Takes l.take taken)
