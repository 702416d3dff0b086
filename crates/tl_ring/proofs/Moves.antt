-- A cut that goes from the front of one list to the end of the list before it leaves both together as they were.
use Rattle.tl_ring.proofs.Names.{◌≡◌, ◌≤◌, ◌<◌, ◌+◌, ◌-◌, ◌↔◌, ◌⊎◌, ◌==◌, ◌&&◌, ℕ, Bool, true, false, List, [], ◌++◌, take, drop, length, min, inl}
use Rattle.tl_ring.proofs.Names.{inr, refl, ap, sym, ◌∙◌, arith, ⊎_elim, append_assoc, append-nil, nil_from_length, take-append-drop, take-append-le}
use Rattle.tl_ring.proofs.Names.{cases_lt, and_parts, take-append-add, take-length}
use Rattle.std.proofs.lemmas.Bool.Decides.{eqb_tells}
use Rattle.tl_ring.specs.declared.pipe.TheConstants.{MAX_RING}
use Rattle.tl_ring.specs.declared.fault.BuildFault.TheVariants.{RingSize, OutOfMemory}

pub cut_moves : {X : Type 0} (k : ℕ) (xs ys : List X) → (xs ++ take k ys) ++ drop k ys ≡ xs ++ ys
cut_moves k xs ys = append_assoc xs (take k ys) (drop k ys) ∙ ap (λ t. xs ++ t) (take-append-drop k ys)

-- the same after other lists
pub cut_moves_after : {X : Type 0} (before : List X) (k : ℕ) (xs ys : List X) → (before ++ (xs ++ take k ys)) ++ drop k ys ≡ (before ++ xs) ++ ys
cut_moves_after before k xs ys =
    ap (λ t. t ++ drop k ys) (sym (append_assoc before xs (take k ys))) ∙ cut_moves k (before ++ xs) ys

-- the first n of two lists joined
pub take_of_two : {X : Type 0} (n : ℕ) (front back : List X) →
    take (min n (length front)) front ++ take (n - min n (length front)) back ≡ take n (front ++ back)
take_of_two n front back = ⊎_elim
    (λ past.
    let k : min n (length front) ≡ length front = omega arith in
    let over : length front + (n - length front) ≡ n = omega arith in
    ap (λ m. take m front ++ take (n - m) back) k ∙ ap (λ t. t ++ take (n - length front) back) (take-length front) ∙
    sym (take-append-add front back (n - length front)) ∙ ap (λ m. take m (front ++ back)) over)
    (λ inside.
    let k : min n (length front) ≡ n = omega arith in
    let none : n - min n (length front) ≡ 0 = omega arith in
    ap (λ m. take m front ++ take (n - min n (length front)) back) k ∙ ap (λ m. take n front ++ take m back) none ∙
    append-nil (take n front) ∙ sym (take-append-le n front back inside))
    (cases_lt (length front) n)

-- the first n of two lists joined, if the first list has them all
pub take_of_first : {X : Type 0} (n : ℕ) (front back : List X) → n ≤ min n (length front) → take (min n (length front)) front ≡ take n (front ++ back)
take_of_first n front back all =
    let none : n - min n (length front) ≡ 0 = omega arith in
    sym (append-nil (take (min n (length front)) front)) ∙ ap (λ k. take (min n (length front)) front ++ take k back) (sym none) ∙
    take_of_two n front back

-- a list has no element if and only if it is empty
pub none_in_one : {X : Type 0} (xs : List X) (n : ℕ) → n ≡ length xs → ((n == 0) ≡ true) ↔ (xs ≡ [])
none_in_one xs n count = ⊎_elim
    (λ (t, z). (λ _. nil_from_length xs (omega arith), λ _. t))
    (λ (t, some). (λ u. absurd (cc), λ x. let a : length xs ≡ 0 = ap length x in absurd (some (omega arith))))
    (eqb_tells n 0)

-- three lists together have no element if and only if each is empty
pub none_in_three : {X : Type 0} (xs ys zs : List X) (n : ℕ) → n ≡ length xs + length ys + length zs →
    ((n == 0) ≡ true) ↔ ((xs ≡ []) × (ys ≡ []) × (zs ≡ []))
none_in_three xs ys zs n e = ⊎_elim
    (λ (t, z). (λ _. (nil_from_length xs (omega arith), nil_from_length ys (omega arith), nil_from_length zs (omega arith)), λ _. t))
    (λ (t, some). (
      λ u. absurd (cc),
      λ (x, y, z).
          let a : length xs ≡ 0 = ap length x in
          let b : length ys ≡ 0 = ap length y in
          let c : length zs ≡ 0 = ap length z in
          absurd (some (omega arith)),
    ))
    (eqb_tells n 0)

-- the same of two lists, each of which is counted by itself
pub none_in_two : {X : Type 0} (xs ys : List X) (m n : ℕ) → m ≡ length xs → n ≡ length ys → (((n == 0) && (m == 0)) ≡ true) ↔ ((xs ≡ []) × (ys ≡ []))
none_in_two xs ys m n count counts =
    let one = none_in_one xs m count in
    let other = none_in_one ys n counts in
    (λ both. let each = and_parts (n == 0) (m == 0) both in (one.0 each.1, other.0 each.0), λ (x, y). rw (one.1 x, other.1 y) refl)

-- a size that is refused is none, or more than a ring may hold
no_ring_size : (ring : ℕ) (answer : Bool) → (answer ≡ true) ↔ ((1 ≤ ring) × (ring ≤ MAX_RING)) → answer ≡ false → (ring ≡ 0) ⊎ (MAX_RING < ring)
no_ring_size ring answer exact refused = ⊎_elim
    (λ none. inl (omega arith))
    (λ some. ⊎_elim
    (λ above. inr above)
    (λ within. let t : answer ≡ true = exact.1 (some, within) in absurd (cc))
    (cases_lt MAX_RING ring))
    (cases_lt ring 1)

-- so RingSize is returned for it
pub refused_size : (ring : ℕ) (answer : Bool) → (answer ≡ true) ↔ ((1 ≤ ring) × (ring ≤ MAX_RING)) → answer ≡ false →
    (RingSize ≡ RingSize) ↔ ((ring ≡ 0) ⊎ (MAX_RING < ring))
refused_size ring answer exact refused = (λ same. no_ring_size ring answer exact refused, λ size. refl)

pub ring_size_only : (ring : ℕ) → (1 ≤ ring) × (ring ≤ MAX_RING) → (ring ≡ 0) ⊎ (MAX_RING < ring) → ⊥
ring_size_only ring size refused = ⊎_elim (λ none. omega arith) (λ above. omega arith) refused

-- a refusal is no success
pub not-ok : {A : Type 0} → false ≡ true → A
not-ok ok = absurd (cc (ok))

-- and want of memory is no size that is refused
pub want_of_memory : (ring : ℕ) → (1 ≤ ring) × (ring ≤ MAX_RING) → (OutOfMemory ≡ RingSize) ↔ ((ring ≡ 0) ⊎ (MAX_RING < ring))
want_of_memory ring size = (λ same. absurd (cc), λ refused. absurd (ring_size_only ring size refused))

-- closed, and none of them has an element
pub shut_and_none : {A B C : Type 0} (closed none : Bool) → (none ≡ true) ↔ (A × B × C) → ((closed && none) ≡ true) ↔ ((closed ≡ true) × A × B × C)
shut_and_none closed none empty = (
  λ both. let each = and_parts closed none both in let all = empty.0 each.1 in (each.0, all.0, all.1, all.2),
  λ (shut, x, y, z). rw (shut, empty.1 (x, y, z)) refl,
)
