use Rattle.tl_convert.proofs.Names.{◌≡◌, ◌≤◌, ◌*◌, ◌++◌, ℕ, List, length, take, drop, WIDEST, burst_after, due, accepted_of, accepted_after}
use Rattle.tl_convert.proofs.count.count_until_refused.Given as goal

abbrev pub invariant-loop-beat : goal.invariant-loop-beat
invariant-loop-beat g l = record {
  open_now : l.tracker ≡ burst_after g.K.Channel.rules (take l.beat-index l.beats);
  accepted : accepted_of g.K.Channel.rules l.beats ≡
      take l.beat-index l.beats ++ accepted_after g.K.Channel.rules (take l.beat-index l.beats) (drop l.beat-index l.beats);
  count : (homes : List ℕ) → l.count ≡ length (due g.K.Channel.rules g.row.W l.far (take l.beat-index l.beats) homes);
  few : l.count ≤ WIDEST * l.beat-index;
}
