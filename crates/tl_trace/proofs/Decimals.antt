-- Writing numbers in decimal.
use Rattle.tl_trace.proofs.Names.{ℕ, ◌≡◌, ◌≤◌, ◌<◌, ◌+◌, ◌/◌, ◌%◌, ◌^◌, ◌∷◌, [], length, arith, ap, ◌∙◌, length-append, decimal, decimal_digit}
use Rattle.tl_trace.proofs.Names.{decimal_step, length-decimal-le}

pub length_small : (n : ℕ) → n < 10 → length (decimal n) ≡ 1
length_small n lt = ap length (decimal_digit n lt)

pub length_more : (n : ℕ) → 10 ≤ n → n < 2 ^ 64 → length (decimal n) ≡ length (decimal (n / 10)) + 1
length_more n le lt = ap length (decimal_step n le lt) ∙ length-append (decimal (n / 10)) ((48 + n % 10) ∷ [])

pub length_decimal : (n : ℕ) → n < 2 ^ 64 → length (decimal n) ≤ 20
length_decimal n lt = length-decimal-le 20 n (omega arith) (omega arith) lt
