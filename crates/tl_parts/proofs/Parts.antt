-- Elements of a part of a list are elements of the list, and elements after the end of a list.
use Rattle.std.proofs.Common.{◌≡◌, ◌≤◌, ◌<◌, ◌+◌, ◌-◌, ◌*◌, ◌++◌, ◌⊎◌, inl, inr, ℕ, zero, suc, None, Some, List, [], ◌∷◌, length, refl, sym, ap, subst}
use Rattle.std.proofs.Common.{◌∙◌, arith, append-nil, length-append}
use Rattle.std.proofs.lemmas.Bool.Decides.{nat_tests}
use Rattle.std.proofs.lemmas.Option.{slice_get_past}
use Rattle.std.specs.Prelude.{slice_get}
use Rattle.tl_settle.specs.Outcomes.{Beats}
use Rattle.tl_trace.specs.declared.script.Script.{Script}
use Rattle.tl_trace.specs.declared.script.Counts.{Counts}
use Rattle.tl_parts.specs.Parts.{AreEnd, ArePart, IsBetween, IsEnd, IsPart, IsWaiting, going, near_beats, none_counted}

get-left : {A : Type 0} (xs ys : List A) (k : ℕ) (b : A) → slice_get xs k ≡ Some b → slice_get (xs ++ ys) k ≡ Some b
get-left [] ys k b e = cc
get-left (x ∷ xs) ys zero b e = e
get-left (x ∷ xs) ys (suc k) b e = get-left xs ys k b e

get-right : {A : Type 0} (xs ys : List A) (k : ℕ) → slice_get (xs ++ ys) (length xs + k) ≡ slice_get ys k
get-right [] ys k = let same : 0 + k ≡ k = omega arith in ap (λ n. slice_get ys n) same
get-right (x ∷ xs) ys k =
    let same : length (x ∷ xs) + k ≡ suc (length xs + k) = omega arith in
    ap (λ n. slice_get (x ∷ (xs ++ ys)) n) same ∙ get-right xs ys k

module _ {B : Type 0} (discarded at : ℕ) (held near : List B) where
  pub part-of : IsEnd discarded held near → IsPart discarded held near
  part-of e = record { before = e.before; after = []; whole = e.whole ∙ sym (append-nil (e.before ++ held)); place = e.place }

  -- the next beat of what is held is the next one of all
  pub part-get : IsPart discarded held near → discarded ≤ at → (b : B) → slice_get held (at - discarded) ≡ Some b → slice_get near at ≡ Some b
  part-get p from b e =
      let here : at ≡ length p.before + (at - discarded) = omega (arith, p.place, from) in
      ap (λ q. slice_get q at) p.whole ∙
      get-left (p.before ++ held) p.after at b (ap (λ n. slice_get (p.before ++ held) n) here ∙ get-right p.before held (at - discarded) ∙ e)

  -- and if there is none, the index is after all of them
  pub end-past : IsEnd discarded held near → discarded + length held ≤ at → length near ≤ at
  end-past e past =
      let sum : length near ≡ length e.before + length held = ap length e.whole ∙ length-append e.before held in
      omega (arith, sum, e.place, past)

  pub end-none : IsEnd discarded held near → discarded + length held ≤ at → slice_get near at ≡ None
  end-none e past = slice_get_past near at (end-past e past)

  -- the next item of what is held at the end is the next one of all, or there is none
  pub end-get : IsEnd discarded held near → discarded ≤ at → slice_get near at ≡ slice_get held (at - discarded)
  end-get e from =
      let here : at ≡ length e.before + (at - discarded) = omega (arith, e.place, from) in
      ap (λ q. slice_get q at) e.whole ∙ ap (λ n. slice_get (e.before ++ held) n) here ∙ get-right e.before held (at - discarded)

-- the same of all channels
pub are-part : {C M : ℕ} (discarded : Counts) (held : Script C M) (near : Beats C M) → AreEnd discarded held near → ArePart discarded held near
are-part discarded held near e = record {
  a = part-of discarded.a 0 held.a.items near.a e.a;
  b = part-of discarded.b 0 held.b.items near.b e.b;
  c = part-of discarded.c 0 held.c.items near.c e.c;
  d = part-of discarded.d 0 held.d.items near.d e.d;
  e = part-of discarded.e 0 held.e.items near.e e.e;
}

-- a whole script is its own end
pub all-held : {C M : ℕ} (discarded : Counts) (held : Script C M) → discarded ≡ none_counted → AreEnd discarded held (near_beats held)
all-held discarded held none = subst (λ q. AreEnd q held (near_beats held)) (sym none) (record {
  a = record { before = []; whole = refl; place = refl };
  b = record { before = []; whole = refl; place = refl };
  c = record { before = []; whole = refl; place = refl };
  d = record { before = []; whole = refl; place = refl };
  e = record { before = []; whole = refl; place = refl };
})

-- ---- the beats that are discarded

module _ (count done n : ℕ) where
  pub going-all : count ≡ done → n ≤ 2 * done → count ≡ going done n
  going-all is most = grind (arith, nat_tests, is, most)

  pub going-none : count ≡ 0 → 2 * done < n → count ≡ going done n
  going-none is few = grind (arith, nat_tests, is, few)

  going-is : (going done n ≡ done) ⊎ ((going done n ≡ 0) × (2 * done < n))
  going-is = grind (arith, nat_tests)

-- so fewer are held that are done with than wait, or none
pub left-waiting : {count discarded after at n m : ℕ} → IsBetween discarded at n → count ≡ going (at - discarded) n → after ≡ discarded + count → m ≡ n - count →
    IsWaiting after at m
left-waiting {count} {discarded} {after} {at} {n} {m} between is past left some = by-case (going-is count (at - discarded) n)
  where
    by-case : (going (at - discarded) n ≡ at - discarded) ⊎ ((going (at - discarded) n ≡ 0) × (2 * (at - discarded) < n)) → at - after < after + m - at
    by-case (inl all) = absurd (omega (arith, between.from, is, past, all, some))
    by-case (inr (none, few)) = omega (arith, between.from, between.to, is, past, left, none, few)
