-- A value that borrows nothing may be held as long as any other.
use Rattle.std.proofs.Common.{ℕ, List, [], rules}
use contract.BorrowLft.{◌⊑◌}

pub lives-long : (κ : List ℕ) → κ ⊑ []
lives-long κ = search rules
