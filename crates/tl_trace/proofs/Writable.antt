-- A lawful beat is writable.
use Rattle.tl_trace.proofs.Names.{◌≡◌, ℕ, zero, suc, ◌^◌, ◌<◌, Bool, true, false, cond, ◌&&◌, nat_eq, nat_le, nat_lt, List, [], ◌∷◌, length, Option}
use Rattle.tl_trace.proofs.Names.{None, Some, refl, arith, subst, bit_and, eqb-true, lt-ltb, ltb-true, leb-true, and_parts, and_from, and_le_r}
use Rattle.tl_trace.proofs.Names.{option_map_or, All, list_all, unless, ◌or_else◌, BeatOf, bit, id_digits, form_a, form_b, form_c, form_d, form_e}
use Rattle.tl_trace.proofs.Names.{number_of_lanes}
use Rattle.tl_lanes.proofs.ActiveLanes.{active_mask-lt}
use Rattle.tl_msg.specs.Faults.{full_mask, mask_fits, is_clean, IsLawfulBeat}
use Rattle.tl_msg.specs.Kinds.{column_a, column_b, column_c, column_d, kind_at, params}
use Rattle.tl_msg.specs.Rules.{Rules}
use Rattle.tl_msg.specs.Tables.{head_fault, is_aligned, rules_a, rules_b, rules_c, rules_d}
use Rattle.tl_msg.specs.declared.fault.BeatFault.TheVariants.{Param, Size, Unaligned, Mask, Corrupt}
use Rattle.tl_msg.specs.declared.kind.Kind.{Kind}
use Rattle.tl_trace.specs.Laws.{LawfulIsWritable}
use Rattle.tl_trace.proofs.Widths.{lanes_fit}
use Rattle.tl_msg.proofs.Firsts.{unless_none, first_none, second_none}

-- ---- the head

-- opcode, param and size of a message that the column has
pub record Limits (column : List (Option Kind)) (limit o p z : ℕ) : Type 0 where
  pub opcode : o < length column
  pub param : p < limit
  pub size : z < 16

of_kind : (kind : Kind) (limit p z : ℕ) (aligned : Bool) → nat_le (params kind) limit ≡ true → head_fault (Some kind) p z aligned ≡ None
    → (p < limit) × (z < 16)
of_kind kind limit p z aligned few e =
    let rest = second_none (unless (nat_lt p (params kind)) Param) (unless (nat_le z 12) Size or_else unless aligned Unaligned) e in
    let param =
    unless_none (nat_lt p (params kind)) Param
    (first_none (unless (nat_lt p (params kind)) Param) (unless (nat_le z 12) Size or_else unless aligned Unaligned) e) in
    let size = unless_none (nat_le z 12) Size (first_none (unless (nat_le z 12) Size) (unless aligned Unaligned) rest) in
    let lt = ltb-true p (params kind) param in
    let le = leb-true (params kind) limit few in
    let most = leb-true z 12 size in
    (omega arith, omega arith)

-- each message of the column has at most `limit` params
abbrev few_params : (limit : ℕ) → Option Kind → Bool
few_params limit kind = option_map_or (λ k. nat_le (params k) limit) kind true

in_column : (column : List (Option Kind)) (limit o p z : ℕ) (aligned : Bool) → list_all (few_params limit) column ≡ true
    → head_fault (kind_at column o) p z aligned ≡ None → Limits column limit o p z
in_column [] limit o p z aligned few e = absurd cc
in_column (None ∷ kinds) limit zero p z aligned few e = absurd cc
in_column (Some kind ∷ kinds) limit zero p z aligned few e =
    let l = of_kind kind limit p z aligned (and_parts (nat_le (params kind) limit) (list_all (few_params limit) kinds) few).0 e in
    record { opcode = omega arith; param = l.0; size = l.1 }
in_column (kind ∷ kinds) limit (suc o) p z aligned few e =
    let l = in_column kinds limit o p z aligned (and_parts (few_params limit kind) (list_all (few_params limit) kinds) few).1 e in
    record { opcode = omega (arith, l.opcode); param = l.param; size = l.size }

-- ---- the mask, and the rest

mask_small : (partial : Bool) (m full w : ℕ) → full < 2 ^ w → (cond partial (nat_eq (bit_and m full) m) (nat_eq m full)) ≡ true → m < 2 ^ w
mask_small true m full w lt e = let same = eqb-true (bit_and m full) m e in omega (arith, and_le_r m full, same, lt)
mask_small false m full w lt e = let same = eqb-true m full e in omega (arith, same, lt)

bit_small : (b : Bool) → nat_lt (bit b) 2 ≡ true
bit_small true = refl
bit_small false = refl

data_small : (w : ℕ) (lanes : List ℕ) → length lanes ≡ w → All (λ byte. byte < 256) lanes → number_of_lanes lanes < 256 ^ w
data_small w lanes long bytes = let P : ℕ → Type 0 = λ k. number_of_lanes lanes < 256 ^ k in subst P long (lanes_fit lanes (each lanes bytes))
  where
    each : (lanes : List ℕ) → All (λ byte. byte < 256) lanes → list_all (λ lane. nat_lt lane 256) lanes ≡ true
    each [] bytes = refl
    each (lane ∷ lanes) bytes = let here : lane < 256 = bytes zero 0 (omega arith) in
        rw (lt-ltb lane 256 here) (each lanes (λ i d lt. bytes (suc i) d (omega arith)))

-- ---- each channel

-- a lawful beat has no fault in its head, and its mask fits
lawful_parts : {H : Type 0} (r : Rules H) {w : ℕ} (b : BeatOf H w) → IsLawfulBeat r b → (r.fault b.head ≡ None) × (mask_fits r b ≡ true)
lawful_parts r b lawful =
    let rest = second_none (r.fault b.head) (unless (mask_fits r b) Mask or_else unless (is_clean r b) Corrupt) lawful in (
      first_none (r.fault b.head) (unless (mask_fits r b) Mask or_else unless (is_clean r b) Corrupt) lawful,
      unless_none (mask_fits r b) Mask (first_none (unless (mask_fits r b) Mask) (unless (is_clean r b) Corrupt) rest),
    )

-- the mask of a lawful beat of A or B is in range
mask_in_range : {H : Type 0} (r : Rules H) {w : ℕ} (b : BeatOf H w) → r.masked ≡ true → IsLawfulBeat r b → nat_lt b.mask (2 ^ w) ≡ true
mask_in_range r {w} b masked lawful =
    let full = full_mask r b.head w in
    let P : Bool → Type 0 = λ t. (cond t (cond (r.partial b.head) (nat_eq (bit_and b.mask full) b.mask) (nat_eq b.mask full)) true) ≡ true in
    let fits = subst P masked (lawful_parts r b lawful).1 in
    lt-ltb b.mask (2 ^ w) (mask_small (r.partial b.head) b.mask full w (active_mask-lt (r.lane_address b.head 0) (r.size b.head) w) fits)

-- lanes and corrupt are in range
data_in_range : {H : Type 0} {w : ℕ} (b : BeatOf H w) → length b.lanes ≡ w → All (λ byte. byte < 256) b.lanes
    → nat_lt (number_of_lanes b.lanes) (256 ^ w) && (nat_lt (bit b.corrupt) 2 && true) ≡ true
data_in_range {w = w} b long bytes = rw (lt-ltb (number_of_lanes b.lanes) (256 ^ w) (data_small w b.lanes long bytes), bit_small b.corrupt) refl

-- the fields of a head of A, B or C are in range, and so are those after it
head_in_range : (version : ℕ) (column : List (Option Kind)) (o p z s a : ℕ) (rest : Bool) → length column ≡ 8 → list_all (few_params 8) column ≡ true
    → head_fault (kind_at column o) p z (is_aligned a z) ≡ None → nat_lt s (16 ^ id_digits version) && true ≡ true → a < 2 ^ 64 → rest ≡ true
    → nat_lt o 8 && (nat_lt p 8 && (nat_lt z 16 && (nat_lt s (16 ^ id_digits version) && (nat_lt a (2 ^ 64) && rest)))) ≡ true
head_in_range version column o p z s a rest long few head id small more =
    let l = in_column column 8 o p z (is_aligned a z) few head in
    let digits = (and_parts (nat_lt s (16 ^ id_digits version)) true id).0 in
    rw (lt-ltb o 8 (omega (arith, l.opcode, long)), lt-ltb p 8 l.param, lt-ltb z 16 l.size, digits, lt-ltb a (2 ^ 64) small) more

pub lawful_a : (version : ℕ) → LawfulIsWritable (form_a version)
lawful_a version w b held ids lawful =
    head_in_range version column_a b.head.opcode b.head.param b.head.size b.head.source b.head.address _ refl refl (lawful_parts rules_a b lawful).0
    ids held.address
    (and_from (nat_lt b.mask (2 ^ w)) _ (mask_in_range rules_a b refl lawful) (data_in_range b held.lanes held.bytes))

pub lawful_b : (version : ℕ) → LawfulIsWritable (form_b version)
lawful_b version w b held ids lawful =
    head_in_range version column_b b.head.opcode b.head.param b.head.size b.head.source b.head.address _ refl refl (lawful_parts rules_b b lawful).0
    ids held.address
    (and_from (nat_lt b.mask (2 ^ w)) _ (mask_in_range rules_b b refl lawful) (data_in_range b held.lanes held.bytes))

pub lawful_c : (version : ℕ) → LawfulIsWritable (form_c version)
lawful_c version w b held ids lawful =
    head_in_range version column_c b.head.opcode b.head.param b.head.size b.head.source b.head.address _ refl refl (lawful_parts rules_c b lawful).0
    ids held.address
    (data_in_range b held.lanes held.bytes)

pub lawful_d : (version : ℕ) → LawfulIsWritable (form_d version)
lawful_d version w b held ids lawful =
    let l = in_column column_d 4 b.head.opcode b.head.param b.head.size true refl (lawful_parts rules_d b lawful).0 in
    let id : nat_lt b.head.source (16 ^ id_digits version) ≡ true =
    (and_parts (nat_lt b.head.source (16 ^ id_digits version)) (nat_lt b.head.sink (16 ^ id_digits version) && true) ids).0 in
    let id' : nat_lt b.head.sink (16 ^ id_digits version) ≡ true =
    (and_parts (nat_lt b.head.sink (16 ^ id_digits version)) true
    (and_parts (nat_lt b.head.source (16 ^ id_digits version)) (nat_lt b.head.sink (16 ^ id_digits version) && true) ids).1).0 in
    rw (
      lt-ltb b.head.opcode 8 l.opcode,
      lt-ltb b.head.param 4 l.param,
      lt-ltb b.head.size 16 l.size,
      id,
      id',
      bit_small b.head.denied,
    ) (data_in_range b held.lanes held.bytes)

pub lawful_e : (version : ℕ) → LawfulIsWritable (form_e version)
lawful_e version w b held ids lawful = ids
