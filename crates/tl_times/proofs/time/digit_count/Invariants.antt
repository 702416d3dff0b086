use Rattle.std.proofs.Common.{◌≤◌}
use Rattle.std.specs.Char.{is_ascii_digit}
use Rattle.std.specs.List.{prefix_len}
use Rattle.tl_times.proofs.time.digit_count.Given as goal

abbrev pub invariant-loop-at : goal.invariant-loop-at
invariant-loop-at l = l.at ≤ prefix_len is_ascii_digit l.text
