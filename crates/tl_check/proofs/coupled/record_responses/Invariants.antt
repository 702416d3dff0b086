use Rattle.tl_check.proofs.Names.{◌≡◌, ◌++◌, List, length, map, take, HeadD, BeatOf, Event, Answer, KnowsClient, HaveHead}
use Rattle.tl_check.proofs.coupled.record_responses.Given as goal

abbrev pub invariant-loop : goal.invariant-loop
invariant-loop g l = record {
  noted : (es : List (Event g.row.C)) (bs : List (BeatOf HeadD g.row.C)) → KnowsClient l.fn.book es → length bs ≡ l.fn.count → HaveHead l.fn.head bs →
      KnowsClient l.book (es ++ map Answer (take l.counter bs));
}
