-- An address below 2 ^ 64 is its own remainder by 2 ^ 64 and more.
use Rattle.std.proofs.Common.{◌≤◌, ◌<◌, ◌^◌, arith}
use Rattle.std.proofs.Math.Nat.{mod-eq_of_lt}
use Rattle.std.proofs.Math.Pow.{pow_mono}
use Rattle.tl_msg.proofs.head.is_multiple.Goals as goal

pub returns-else-size-lt64 : goal.returns-else-size-lt64
returns-else-size-lt64 c =
    let large : 2 ^ 64 ≤ 2 ^ c.args.size = pow_mono c.if-size-lt64.false in
    let below : c.args.address < 2 ^ c.args.size = omega arith in
    rw (mod-eq_of_lt below)
