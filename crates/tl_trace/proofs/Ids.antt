-- The digits of ids, and the two versions.
use Rattle.tl_trace.proofs.Names.{◌≡◌, ℕ, ◌^◌, ◌<◌, ◌≤◌, Bool, true, false, cond, nat_eq, arith, nat_tests, id_digits, is_version, IsSmall}
use Rattle.tl_trace.proofs.Names.{HeadFields}

-- there is an id, and none is above those of four digits
pub id_limits : (version : ℕ) → (0 < 16 ^ id_digits version) × (16 ^ id_digits version ≤ 16 ^ 4)
id_limits version = limits (nat_eq version 1)
  where
    limits : (b : Bool) → (0 < 16 ^ cond b 2 4) × (16 ^ cond b 2 4 ≤ 16 ^ 4)
    limits true = (omega arith, omega arith)
    limits false = (omega arith, omega arith)

pub four_digits : (version : ℕ) (r : HeadFields) → IsSmall (id_digits version) r → IsSmall 4 r
four_digits version r s =
    let most = (id_limits version).1 in
    record {
      size = s.size;
      source = omega (arith, s.source);
      address = s.address;
      sink = omega (arith, s.sink);
      opcode = s.opcode;
      param = s.param;
    }

pub other_version : (version : ℕ) → is_version version ≡ true → (version ≡ 1 → ⊥) → version ≡ 2
other_version version is ne = grind (arith, nat_tests)
