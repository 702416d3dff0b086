-- The rounds of a run are counted, and end.
use Rattle.tl_run.proofs.Names.{◌≡◌, ◌+◌, ◌-◌, ◌^◌, ◌<◌, ◌≤◌, ℕ, arith}

-- no beat more is the same number of beats
pub none-more : (n : ℕ) → n ≡ n + 0
none-more n = omega arith

-- a count below its bound can be increased
pub counts-on : (k l m : ℕ) → k ≤ l → l ≤ m → m < 2 ^ 60 → k + 1 < 2 ^ 64
counts-on k l m f g h = omega arith

-- the last round is one more
pub last-one : (k l m : ℕ) → k ≤ l → l ≤ m → k + 1 ≤ m + 1
last-one k l m g h = omega arith

-- a number that grows is nearer to its bound
pub nearer : (k l m : ℕ) → k + 1 ≤ l → l ≤ m → m - l < m - k
nearer k l m g h = omega arith

-- and so the rounds are no more than that
pub one-round-more : (k l m : ℕ) → k ≤ l → l + 1 ≤ m → k + 1 ≤ m
one-round-more k l m g h = omega arith

-- a count that has not passed a short list may be counted on
pub few-enough : {n l : ℕ} → n ≤ l → l ≤ 2 ^ 40 → n < 2 ^ 41
few-enough m f = omega arith

-- five numbers that are the same have one sum
pub same-sums : {a b c d e a' b' c' d' e' : ℕ} → a ≡ a' → b ≡ b' → c ≡ c' → d ≡ d' → e ≡ e' → a + b + c + d + e ≡ a' + b' + c' + d' + e'
same-sums f g h i j = omega arith
