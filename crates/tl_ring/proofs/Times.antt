-- Items that enter a ring and leave it one by one, with their times.
use Rattle.tl_ring.proofs.Names.{◌≡◌, ◌<◌, ◌≤◌, ◌+◌, ℕ, zero, suc, List, [], ◌∷◌, ◌++◌, length, map, take, drop, refl, sym, ap, subst, ◌∙◌, arith, ⊎_elim}
use Rattle.tl_ring.proofs.Names.{◌⊎◌, inl, inr, max, append_assoc, append-nil, nil_from_length, All, All-append, All-replicate, All-nil}
use Rattle.std.proofs.Common.{slice_set}
use Rattle.std.proofs.lemmas.List.{map-append}
use mathlib.Core.List.{IsPrefix}
use Rattle.rtrb.specs.Fifo.{Allowed}
use Rattle.tl_ring.specs.Halves.{Heard, Popped, items, all_stamped, stamped}
use Rattle.tl_ring.specs.declared.stamped.Stamped.{Stamped}

pub after_both : (a b t : ℕ) → t ≡ suc (max a b) → (a ≤ t) × (b < t)
after_both a b t e = (grind arith, grind arith)

few_none : (n : ℕ) → (0 < n → ⊥) → n ≡ 0
few_none zero few = refl
few_none (suc n) few = absurd (few (omega arith))

never : {X : Type 0} (before : List X) (x : X) (after : List X) → [] ≡ before ++ x ∷ after → ⊥
never [] x after e = cc
never (y ∷ before) x after e = cc

at_last : {X : Type 0} (es : List X) (x y : X) (before after : List X) → es ++ x ∷ [] ≡ before ++ y ∷ after →
    ((others : List X) × (es ≡ before ++ y ∷ others)) ⊎ (x ≡ y)
at_last [] x y [] after e = let f : x ≡ y = cc in inr f
at_last [] x y (b ∷ before) after e = let f : [] ≡ before ++ y ∷ after = cc in absurd (never before y after f)
at_last (z ∷ es) x y [] after e = let f : z ≡ y = cc in inl (es, ap (λ q. q ∷ es) f)
at_last (z ∷ es) x y (b ∷ before) after e =
    let f : z ≡ b = cc in
    let g : es ++ x ∷ [] ≡ before ++ y ∷ after = cc in
    ⊎_elim
    (λ (p : (others : _) × (es ≡ before ++ y ∷ others)). inl (p.0, ap (λ q. q ∷ es) f ∙ ap (λ q. b ∷ q) p.1))
    (λ same. inr same)
    (at_last es x y before after g)

allowed_more : {X : Type 0} (allows : List X → X → Type 0) (before xs : List X) (x : X) → Allowed allows before xs → allows (before ++ xs) x →
    Allowed allows before (xs ++ x ∷ [])
allowed_more allows before [] x h last = (subst (λ z. allows z x) (append-nil before) last, tt)
allowed_more allows before (y ∷ ys) x h last =
    (h.0, allowed_more allows (before ++ y ∷ []) ys x h.1 (subst (λ z. allows z x) (sym (append_assoc before (y ∷ []) ys)) last))

-- each of those that came out of a ring satisfies its protocol, if that depends on no other item and on no time
pub all_popped : {T : Type 0} (P : T → Type 0) (before ss : List (Stamped T)) → Allowed (λ earlier s. P s.item) before ss → All P (items ss)
all_popped P before [] h = All-nil P
all_popped P before (s ∷ ss) h = All-append P (s.item ∷ []) (items ss) (All-replicate P 1 s.item h.0) (all_popped P (before ++ s ∷ []) ss h.1)

module _ {T : Type 0} (allows : List (Stamped T) → Stamped T → Type 0) where
  pub popped_none : (before known : List (Stamped T)) (now : ℕ) → Popped allows before before known known [] now now
  popped_none before known now = record {
    heard = record { got = []; more = sym (append-nil before); later = omega arith; past = λ us vs s e. absurd (never us s vs e) };
    are = refl;
    allowed = tt;
    seen = ([], append-nil known);
  }

  pub popped_more : (before after known left : List (Stamped T)) (xs : List T) (was now : ℕ) → Popped allows before after known left xs was now →
      (s : Stamped T) (after' left' : List (Stamped T)) (later : ℕ) → after' ≡ after ++ s ∷ [] → IsPrefix left (s ∷ left') → allows after s →
      now ≤ later → s.stamp.time < later → Popped allows before after' known left' (xs ++ s.item ∷ []) was later
  popped_more before after known left xs was now p s after' left' later e on fine le heard =
      let h : Heard before after was now = p.heard in
      let before_now : was ≤ now = h.later in
      record {
        heard = record {
          got = h.got ++ s ∷ [];
          more = e ∙ ap (λ q. q ++ s ∷ []) h.more ∙ append_assoc before h.got (s ∷ []);
          later = omega arith;
          past = λ us vs i q. ⊎_elim
              (λ (r : (others : _) × (h.got ≡ us ++ i ∷ others)). let l : i.stamp.time < now = h.past us r.0 i r.1 in omega arith)
              (λ (r : s ≡ i). let f : s.stamp.time ≡ i.stamp.time = ap (λ z. z.stamp.time) r in omega arith)
              (at_last h.got s i us vs q);
        };
        are = map-append (λ i. i.item) h.got (s ∷ []) ∙ ap (λ q. q ++ s.item ∷ []) p.are;
        allowed = allowed_more allows before h.got s p.allowed (subst (λ z. allows z s) h.more fine);
        seen = (
          p.seen.0 ++ on.0,
          sym (append_assoc known p.seen.0 on.0) ∙ ap (λ q. q ++ on.0) p.seen.1 ∙ append_assoc h.got left on.0 ∙ ap (λ q. h.got ++ q) on.1 ∙
              sym (append_assoc h.got (s ∷ []) left'),
        );
      }

  -- the ring is empty
  pub popped_end : (before after known left : List (Stamped T)) (xs : List T) (was now : ℕ) → Popped allows before after known left xs was now →
      (after' left' : List (Stamped T)) → after' ≡ after → left' ≡ [] → (0 < length left → ⊥) → Popped allows before after' known left' xs was now
  popped_end before after known left xs was now p after' left' same none few =
      let gone : left ≡ [] = nil_from_length left (few_none (length left) few) in
      subst (λ l. Popped allows before after' known l xs was now) (gone ∙ sym none)
      (subst (λ a. Popped allows before a known left xs was now) (sym same) p)

-- the known items that came out
pub seen_items : {T : Type 0} (known got left : List (Stamped T)) (xs : List T) → items got ≡ xs → IsPrefix known (got ++ left) →
    IsPrefix (items known) (xs ++ items left)
seen_items known got left xs are seen = (
  items seen.0,
  sym (map-append (λ s. s.item) known seen.0) ∙ ap items seen.1 ∙ map-append (λ s. s.item) got left ∙ ap (λ q. q ++ items left) are,
)

pub items_append : {T : Type 0} (xs ys : List (Stamped T)) → items (xs ++ ys) ≡ items xs ++ items ys
items_append xs ys = map-append (λ s. s.item) xs ys

pub items_length : {T : Type 0} (xs : List (Stamped T)) → length (items xs) ≡ length xs
items_length [] = refl
items_length (x ∷ xs) = ap suc (items_length xs)

pub items_stamped : {T : Type 0} (time : ℕ) (xs : List T) → items (all_stamped time xs) ≡ xs
items_stamped time [] = refl
items_stamped time (x ∷ xs) = ap (λ q. x ∷ q) (items_stamped time xs)

-- ---- the loops over a slice

set_take : {X : Type 0} (xs : List X) (i : ℕ) (x : X) → i < length xs → take (suc i) (slice_set xs i x) ≡ take i xs ++ x ∷ []
set_take [] i x l = absurd (omega arith)
set_take (y ∷ xs) zero x l = refl
set_take (y ∷ xs) (suc i) x l = ap (λ q. y ∷ q) (set_take xs i x (omega arith))

set_drop : {X : Type 0} (xs : List X) (i : ℕ) (x : X) → drop (suc i) (slice_set xs i x) ≡ drop (suc i) xs
set_drop [] i x = refl
set_drop (y ∷ xs) zero x = refl
set_drop (y ∷ xs) (suc i) x = set_drop xs i x

pub set_length : {X : Type 0} (xs : List X) (i : ℕ) (x : X) → length (slice_set xs i x) ≡ length xs
set_length [] i x = refl
set_length (y ∷ xs) zero x = refl
set_length (y ∷ xs) (suc i) x = ap suc (set_length xs i x)

drop_one : {X : Type 0} (xs : List X) (i : ℕ) → drop 1 (drop i xs) ≡ drop (suc i) xs
drop_one [] zero = refl
drop_one [] (suc i) = refl
drop_one (x ∷ xs) zero = refl
drop_one (x ∷ xs) (suc i) = drop_one xs i

drop_more : {X : Type 0} (xs ys : List X) (i : ℕ) → drop i xs ≡ drop i ys → drop (suc i) xs ≡ drop (suc i) ys
drop_more xs ys i e = sym (drop_one xs i) ∙ ap (λ q. drop 1 q) e ∙ drop_one ys i

one_more : (i : ℕ) → i + 1 ≡ suc i
one_more i = omega arith

pub next_take : {X : Type 0} (xs : List X) (i : ℕ) (x : X) → i < length xs → take (i + 1) (slice_set xs i x) ≡ take i xs ++ x ∷ []
next_take xs i x l = ap (λ n. take n (slice_set xs i x)) (one_more i) ∙ set_take xs i x l

pub next_drop : {X : Type 0} (xs ys : List X) (i : ℕ) (x : X) → drop i xs ≡ drop i ys → drop (i + 1) (slice_set xs i x) ≡ drop (i + 1) ys
next_drop xs ys i x e =
    ap (λ n. drop n (slice_set xs i x)) (one_more i) ∙ set_drop xs i x ∙ drop_more xs ys i e ∙ ap (λ n. drop n ys) (sym (one_more i))
