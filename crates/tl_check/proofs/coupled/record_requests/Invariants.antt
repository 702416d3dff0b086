use Rattle.tl_check.proofs.Names.{◌≡◌, ◌++◌, List, length, map, take, HeadA, BeatOf, Event, Ask, KnowsManager, HaveHead}
use Rattle.tl_check.proofs.coupled.record_requests.Given as goal

abbrev pub invariant-loop : goal.invariant-loop
invariant-loop g l = record {
  noted : (es : List (Event g.row.M)) (bs : List (BeatOf HeadA g.row.M)) → KnowsManager l.fn.book es →
      length bs ≡ l.fn.count → HaveHead l.fn.head bs →
      KnowsManager l.book (es ++ map Ask (take l.counter bs));
}
