-- Places among what is held of a list.
use Rattle.tl_check.proofs.Names.{◌≡◌, ◌≤◌, ◌<◌, ◌+◌, ◌-◌, ◌*◌, ℕ, false, List, length, arith, nat_lt, IsWithin, None, slice_get, slice_get_past}
use Rattle.tl_check.proofs.Names.{Some, true, refl, sym}
use Rattle.std.proofs.lemmas.Option.{slice_get_read}
use Rattle.std.specs.Prelude.{slice_index_or}
use Rattle.tl_convert.proofs.Comparisons.{true_less}
use Rattle.std.proofs.lemmas.Bool.Decides.{nat_tests}
use Rattle.tl_lanes.specs.declared.limits.TheConstants.{WIDEST}

-- a place, one further
pub steps : (discarded at far n at' far' : ℕ) → IsWithin discarded at far n → at - discarded < n → at' ≡ at + 1 → far' ≤ WIDEST * at' → IsWithin discarded at' far' n
steps discarded at far n at' far' w within one few = record {
  from = omega (arith, w.from, one);
  to = omega (arith, w.from, within, one);
  few = w.few;
  few_far = few;
}

-- the element at a place below a list's end
pub read_some : {A : Type 0} (bs : List A) (n : ℕ) (b : A) → true ≡ nat_lt n (length bs) → b ≡ slice_index_or bs n b → slice_get bs n ≡ Some b
read_some bs n b below same = slice_get_read bs (length bs) n b refl (true_less n (length bs) (sym below)) same

-- there is none if no beat is left
pub none-left : {B : Type 0} (discarded at : ℕ) (held : List B) → false ≡ nat_lt (at - discarded) (length held) → {far : ℕ} →
    IsWithin discarded at far (length held) → discarded + length held ≤ at
none-left discarded at held none w = grind (arith, nat_tests, none, w.from)

pub none-held : {B : Type 0} (discarded at : ℕ) (held : List B) → discarded + length held ≤ at → slice_get held (at - discarded) ≡ None
none-held discarded at held past = slice_get_past held (at - discarded) (omega (arith, past))
