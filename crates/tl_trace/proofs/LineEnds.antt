-- Looking for the end of a line.
use Rattle.tl_trace.proofs.Names.{◌≡◌, ◌≢◌, ◌≤◌, ◌<◌, ◌+◌, ◌⊎◌, inl, inr, ℕ, List, length, sym, ap, ◌∙◌, arith, slice_index, cases_eq}

-- no LF from one place up to another
pub record IsFreeTo (text : List ℕ) (at end : ℕ) : Type 0 where
  pub from : at ≤ end
  pub to : end ≤ length text
  pub free : (k : ℕ) → at + k < end → slice_index text (at + k) ≢ 10

pub free_none : (text : List ℕ) (at : ℕ) → at ≤ length text → IsFreeTo text at at
free_none text at few = record { from = omega arith; to = few; free = λ k less. absurd (omega arith) }

pub free_more : (text : List ℕ) (at end : ℕ) → end < length text → slice_index text end ≢ 10 → IsFreeTo text at end → IsFreeTo text at (end + 1)
free_more text at end less other far = record { from = omega (arith, far.from); to = omega arith; free = λ k more. of k more (cases_eq (at + k) end) }
  where
    of : (k : ℕ) → at + k < end + 1 → (at + k ≡ end) ⊎ (at + k ≢ end) → slice_index text (at + k) ≢ 10
    of k more (inl same) = λ is. other (ap (slice_index text) (sym same) ∙ is)
    of k more (inr apart) = far.free k (omega arith)
