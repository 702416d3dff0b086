-- One beat more: the burst that is open after a beat at its place.
use Rattle.tl_burst.proofs.Names.{◌≡◌, ◌≢◌, ◌≤◌, ◌<◌, ◌+◌, ◌==◌, ◌↔◌, eqb-true, eq-eqb, ℕ, Bool, true, false, cond, if◌then◌else◌, Option, None, Some}
use Rattle.tl_burst.proofs.Names.{List, [], ◌∷◌, ◌++◌, length, refl, sym, ap, ◌∙◌, arith, length_push, IsWidth, Rules, BeatOf, beats_of, ends}
use Rattle.tl_burst.proofs.Names.{rest_of, burst_of, burst_after, count_in, burst_with, IsOpen, IsPlace, Place}
use Rattle.tl_burst.proofs.Burst.{rest-snoc, beats-bounds}

not-both : {b : Bool} → b ≡ false → b ≡ true → ⊥
not-both e f = cc

module _ {H : Type 0} (r : Rules H) (w : ℕ) where
  pub count-of : (rest : List (BeatOf H w)) → count_in (burst_of r rest) ≡ length rest
  count-of [] = refl
  count-of (b ∷ bs) = refl

  grown : (rest : List (BeatOf H w)) (b : BeatOf H w) (head : H) (index : ℕ) → index ≡ length rest → head ≡ b.head →
      ((h : H) (count : ℕ) → burst_of r rest ≡ Some (h, count) → head ≡ h) → Some (head, index + 1) ≡ burst_of r (rest ++ b ∷ [])
  grown [] b head index n same held = let one : index + 1 ≡ 1 = omega arith in ap (λ h. Some (h, index + 1)) same ∙ ap (λ k. Some (b.head, k)) one
  grown (x ∷ xs) b head index n same held =
      let k : length ((x ∷ xs) ++ b ∷ []) ≡ length (x ∷ xs) + 1 = length_push (x ∷ xs) b in
      let e : index + 1 ≡ length ((x ∷ xs) ++ b ∷ []) = omega arith in
      ap (λ h. Some (h, index + 1)) (held x.head (length (x ∷ xs)) refl) ∙ ap (λ k. Some (x.head, k)) e

  step-by : (rest : List (BeatOf H w)) (b : BeatOf H w) (head : H) (index : ℕ) (last : Bool) → last ≡ ends r w rest b → index ≡ length rest →
      head ≡ b.head →
      ((h : H) (count : ℕ) → burst_of r rest ≡ Some (h, count) → head ≡ h) →
      (if last then None else Some (head, index + 1)) ≡ burst_of r (cond (ends r w rest b) [] (rest ++ b ∷ []))
  step-by rest b head index true e n same held = ap (λ x. burst_of r (cond x [] (rest ++ b ∷ []))) e
  step-by rest b head index false e n same held = grown rest b head index n same held ∙ ap (λ x. burst_of r (cond x [] (rest ++ b ∷ []))) e

  module _ {K : Type 0} (burst : Option (H × ℕ)) (place : Place K H) (is : IsPlace r w burst place) where
    -- the burst after a beat at its place is the one after the list with it
    pub burst-step : (bs : List (BeatOf H w)) (b : BeatOf H w) → burst ≡ burst_after r bs → b.head ≡ place.head →
        burst_with place ≡ burst_after r (bs ++ b ∷ [])
    burst-step bs b e same =
        let n : place.index ≡ length (rest_of r w bs) = is.index ∙ ap count_in e ∙ count-of (rest_of r w bs) in
        let last : place.last ≡ ends r w (rest_of r w bs) b =
        is.last ∙ ap (λ k. k + 1 == beats_of r place.head w) n ∙ ap (λ h. length (rest_of r w bs) + 1 == beats_of r h w) (sym same) in
        step-by (rest_of r w bs) b place.head place.index place.last last n (sym same) (λ h count q. is.held h count (e ∙ q)) ∙
        ap (λ xs. burst_of r xs) (sym (rest-snoc r w [] bs b))

    -- a place is one of at most 4,096
    pub index-small : IsWidth w → r.size place.head ≤ 12 → place.index < 4096
    index-small ww small =
        let b : (0 < beats_of r place.head w) × (beats_of r place.head w ≤ 4096) = beats-bounds r place.head w ww small in
        omega (arith, is.within)

    -- the field `last` of the place of a beat with this head
    pub last-tells : (head : H) → place.head ≡ head → (place.last ≡ true) ↔ (place.index + 1 ≡ beats_of r head w)
    last-tells head same = (
      λ last. eqb-true (place.index + 1) (beats_of r place.head w) (sym is.last ∙ last) ∙ ap (λ h. beats_of r h w) same,
      λ all. is.last ∙ eq-eqb (place.index + 1) (beats_of r place.head w) (all ∙ ap (λ h. beats_of r h w) (sym same)),
    )

  -- and the burst after it is open
  with-last : (head : H) (index : ℕ) (last : Bool) → r.fault head ≡ None → index < beats_of r head w → last ≡ (index + 1 == beats_of r head w) →
      IsOpen r w (if last then None else Some (head, index + 1))
  with-last head index true lawful within e = tt
  with-last head index false lawful within e =
      let more : index + 1 ≢ beats_of r head w = λ same. absurd (not-both (sym e) (eq-eqb (index + 1) (beats_of r head w) same)) in
      (lawful, omega arith, omega arith)

  pub place-opens : {K : Type 0} (burst : Option (H × ℕ)) (place : Place K H) → IsPlace r w burst place → IsOpen r w (burst_with place)
  place-opens burst place is = with-last place.head place.index place.last is.lawful is.within is.last

  pub place-within : (burst : Option (H × ℕ)) (head : H) (index : ℕ) → IsWidth w → r.size head ≤ 12 → IsOpen r w burst →
      ((h : H) (count : ℕ) → burst ≡ Some (h, count) → head ≡ h) → index ≡ count_in burst → index < beats_of r head w
  place-within None head index ww small begun held n =
      let b : (0 < beats_of r head w) × (beats_of r head w ≤ 4096) = beats-bounds r head w ww small in
      omega arith
  place-within (Some (h, count)) head index ww small begun held n =
      let same : beats_of r head w ≡ beats_of r h w = ap (λ g. beats_of r g w) (held h count refl) in
      omega (arith, begun.2)

  -- the place of a beat whose head has no fault and is the open burst's
  pub place-is : {K : Type 0} (burst : Option (H × ℕ)) (head : H) (index beats : ℕ) → IsWidth w → r.size head ≤ 12 → IsOpen r w burst →
      r.fault head ≡ None →
      ((h : H) (count : ℕ) → burst ≡ Some (h, count) → head ≡ h) → index ≡ count_in burst → beats ≡ beats_of r head w →
      IsPlace r w {K = K} burst (record { head = head; index = index; last = index + 1 == beats })
  place-is burst head index beats ww small begun lawful held n e = record {
    lawful = lawful;
    held = held;
    index = n;
    within = place-within burst head index ww small begun held n;
    last = ap (λ k. index + 1 == k) e;
  }
