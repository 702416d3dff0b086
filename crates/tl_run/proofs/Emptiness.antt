-- Two numbers together are 0 if each is 0, and not 0 if one of them is not.
use Rattle.tl_run.proofs.Names.{◌≡◌, ◌≢◌, ◌+◌, ◌⊎◌, inl, inr, ◌↔◌, ◌&&◌, ◌||◌, ◌==◌, ℕ, Bool, arith, ⊎_elim, IsTrue}
use Rattle.std.proofs.lemmas.Bool.{and_parts, and_from, or_cases, or_left, or_right, cases_eq}
use Rattle.std.proofs.lemmas.Bool.Decides.{nat_tests}

pub none : (n : ℕ) → IsTrue (n == 0) ↔ (n ≡ 0)
none n = (λ e. grind (arith, nat_tests), λ e. grind (arith, nat_tests))

module _ {x y : Bool} {n m : ℕ} where
  pub none-of-both : IsTrue x ↔ (n ≡ 0) → IsTrue y ↔ (m ≡ 0) → IsTrue (x && y) ↔ (n + m ≡ 0)
  none-of-both one other = (
    λ t. let p : n ≡ 0 = one.0 (and_parts x y t).0 in let q : m ≡ 0 = other.0 (and_parts x y t).1 in omega (arith, p, q),
    λ z. and_from x y (one.1 (omega (arith, z))) (other.1 (omega (arith, z))),
  )

  pub some-of-either : IsTrue x ↔ (n ≢ 0) → IsTrue y ↔ (m ≢ 0) → IsTrue (x || y) ↔ (n + m ≢ 0)
  some-of-either one other = (
    λ t z. ⊎_elim (λ e. one.0 e (omega (arith, z))) (λ e. other.0 e (omega (arith, z))) (or_cases x y t),
    λ some. ⊎_elim (λ z. or_right x y (other.1 (λ w. some (omega (arith, z, w))))) (λ p. or_left x y (one.1 p)) (cases_eq n 0),
  )

  pub either-some : IsTrue x ↔ (n ≢ 0) → IsTrue y ↔ (m ≢ 0) → IsTrue (x || y) ↔ ((n ≢ 0) ⊎ (m ≢ 0))
  either-some one other = (
    λ t. ⊎_elim (λ e. inl (one.0 e)) (λ e. inr (other.0 e)) (or_cases x y t),
    λ some. ⊎_elim (λ p. or_left x y (one.1 p)) (λ p. or_right x y (other.1 p)) some,
  )
