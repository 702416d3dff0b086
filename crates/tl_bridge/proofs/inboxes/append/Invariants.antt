use Rattle.std.proofs.Common.{◌≡◌, ◌+◌, ◌++◌, take, vec_len, vec_capacity}
use Rattle.tl_bridge.proofs.inboxes.append.Given as goal

abbrev pub invariant-loop-beat : goal.invariant-loop-beat
invariant-loop-beat g l = record {
  items : l.far.items ≡ l.fn.far.items ++ take l.beat-index l.beats;
  len : vec_len l.far ≡ vec_len l.fn.far + l.beat-index;
  capacity : vec_capacity l.far ≡ vec_capacity l.fn.far;
}
