-- A side records several beats with one head, one after another.
use Rattle.tl_check.proofs.Names.{◌≡◌, ◌≤◌, ◌<◌, ◌+◌, ◌++◌, ℕ, List, [], ◌∷◌, length, map, take, sym, subst, arith, get_or_from_slice_get, BeatOf}
use Rattle.tl_check.proofs.Names.{HaveHead}
use Rattle.std.proofs.lemmas.List.{take_all}
use Rattle.tl_convert.proofs.Comparisons.{there_is}
use Rattle.tl_check.proofs.NewHeads.{head-at}
use Rattle.tl_check.proofs.Passing.{next-noted}

module _ {H E : Type 0} {w : ℕ} (note : BeatOf H w → E) (es : List E) (bs : List (BeatOf H w)) (count k : ℕ) (many : length bs ≡ count) where
  -- one beat more
  pub one-noted : (Was Is : List E → Type 0) (h : H) → HaveHead h bs → k < count → Was (es ++ map note (take k bs)) →
      ((fs : List E) (b : BeatOf H w) → Was fs → b.head ≡ h → Is (fs ++ note b ∷ [])) → Is (es ++ map note (take (k + 1) bs))
  one-noted Was Is h heads more was notes =
      let within : k < length bs = omega (arith, many, more) in
      let next = there_is bs k within in
      subst Is (next-noted note es bs k next.0 within (sym (get_or_from_slice_get bs k next.0 next.0 next.1)))
      (notes (es ++ map note (take k bs)) next.0 was (head-at h bs k next.0 heads next.1))

  -- all of them
  pub all-noted : (Is : List E → Type 0) → count ≤ k → Is (es ++ map note (take k bs)) → Is (es ++ map note bs)
  all-noted Is past is = subst (λ q. Is (es ++ map note q)) (take_all k bs (omega (arith, many, past))) is
