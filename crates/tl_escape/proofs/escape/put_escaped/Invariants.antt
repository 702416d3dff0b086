use Rattle.std.proofs.Common.{◌≡◌, ◌++◌, take}
use Rattle.tl_escape.specs.Escaped.{escaped}
use Rattle.tl_escape.proofs.escape.put_escaped.Given as goal

abbrev pub invariant-loop-byte : goal.invariant-loop-byte
invariant-loop-byte l = l.out.items ≡ l.fn.out.items ++ escaped (take l.byte-index l.text)
