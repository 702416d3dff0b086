-- The first beats of those that enter a ring, and of those that came out of it.
use Rattle.tl_ring.proofs.Names.{◌≡◌, ◌≤◌, ◌<◌, ◌+◌, ℕ, List, [], ◌∷◌, ◌++◌, length, take, min, ap, sym, ◌∙◌, arith, ⊎_elim, length-append, All}
use Rattle.tl_ring.proofs.Names.{cases_lt, length-take, take-append-le, All-append, All-replicate, All-nil, All-head, take-append_seam}
use Rattle.std.specs.Option.{IfSome}
use Rattle.std.specs.List.{slice_get}
use Rattle.rtrb.specs.Fifo.{Allowed}

-- no fewer items entered than were known to fit, if no position is left when some remain
pub least_entered : (whole before after count : ℕ) → before ≤ after + count → (count < whole → after ≡ 0) → min whole before ≤ count
least_entered whole before after count known full = ⊎_elim
    (λ rest. let none = full rest in omega (arith, none))
    (λ no_rest. omega arith)
    (cases_lt count whole)

-- a property of each of the first items
pub all_front : {X : Type 0} (P : X → Type 0) (k : ℕ) (xs rest : List X) → k ≤ length xs → All P (take k xs) → All P (take k (xs ++ rest))
all_front P k xs rest inside h = rw (take-append-le k xs rest inside) h

pub front_of : {X : Type 0} (inbox : List X) (k : ℕ) (xs rest : List X) → k ≤ length xs → inbox ++ take k (xs ++ rest) ≡ inbox ++ take k xs
front_of inbox k xs rest inside = ap (λ l. inbox ++ l) (take-append-le k xs rest inside)

pub front_size : {X : Type 0} (k : ℕ) (xs : List X) → k ≤ length xs → length (take k xs) ≡ k
front_size k xs inside = let size : length (take k xs) ≡ min k (length xs) = length-take k xs in omega arith

-- a property of each item is a property of the first one
pub first_holds : {X : Type 0} (P : X → Type 0) (xs : List X) → All P xs → IfSome (slice_get xs 0) P
first_holds P [] h = tt
first_holds P (x ∷ xs) h = All-head P x xs h
