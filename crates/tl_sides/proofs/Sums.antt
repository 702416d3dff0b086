-- The sum of what moves on five channels is small.
use Rattle.std.proofs.Common.{◌+◌, ◌*◌, ◌^◌, ◌≤◌, ◌<◌, ℕ, arith}
use Rattle.tl_ring.specs.declared.queue.TheConstants.{STAGE_CAPACITY}

pub sum_2 : (a b : ℕ) → a ≤ STAGE_CAPACITY → b ≤ STAGE_CAPACITY → a + b < 2 ^ 64
sum_2 a b i j = omega arith

pub sum_3 : (a b c : ℕ) → a ≤ STAGE_CAPACITY → b ≤ STAGE_CAPACITY → c ≤ STAGE_CAPACITY → a + b + c < 2 ^ 64
sum_3 a b c i j k = omega arith

pub sum_4 : (a b c d : ℕ) → a ≤ STAGE_CAPACITY → b ≤ STAGE_CAPACITY → c ≤ STAGE_CAPACITY → d ≤ STAGE_CAPACITY → a + b + c + d < 2 ^ 64
sum_4 a b c d i j k l = omega arith

pub sum_5 : (a b c d e : ℕ) → a ≤ STAGE_CAPACITY → b ≤ STAGE_CAPACITY → c ≤ STAGE_CAPACITY → d ≤ STAGE_CAPACITY → e ≤ STAGE_CAPACITY → a + b + c + d + e < 2 ^ 64
sum_5 a b c d e i j k l m = omega arith

pub sum_most : (a b c d e : ℕ) → a ≤ STAGE_CAPACITY → b ≤ STAGE_CAPACITY → c ≤ STAGE_CAPACITY → d ≤ STAGE_CAPACITY → e ≤ STAGE_CAPACITY → a + b + c + d + e ≤ 5 * STAGE_CAPACITY
sum_most a b c d e i j k l m = omega arith
