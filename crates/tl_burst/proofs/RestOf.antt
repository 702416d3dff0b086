-- The sizes in the heads of handed beats determine the unfinished rest.
use Rattle.tl_burst.proofs.Names.{◌≡◌, ◌<◌, ◌+◌, ◌≢◌, ℕ, suc, true, false, Some, List, [], ◌∷◌, ◌++◌, length, slice_get, refl, sym, ap, ◌∙◌, arith}
use Rattle.tl_burst.proofs.Names.{⊎_elim, append_assoc, append-nil, length-append, slice_get_within, length_push, eqb_tells, Rules, BeatOf, Message}
use Rattle.tl_burst.proofs.Names.{beats_of, Spells, Handed, nothing, begun, whole, ends, rest_after, rest_of}
use Rattle.tl_burst.proofs.Numbers.{slice_get-left}

pub some-first : {A : Type 0} (xs : List A) → xs ≢ [] → (y : A) × (ys : List A) × (xs ≡ y ∷ ys)
some-first [] ne = absurd (ne refl)
some-first (y ∷ ys) ne = (y, ys, refl)

module _ {H : Type 0} (r : Rules H) (w : ℕ) where
  -- every beat has this head
  abbrev pub Heads : H → List (BeatOf H w) → Type 0
  Heads h bs = (j : ℕ) (b : BeatOf H w) → slice_get bs j ≡ Some b → b.head ≡ h

  ends-is : (h : H) (seen : List (BeatOf H w)) (b : BeatOf H w) → b.head ≡ h → length seen + 1 ≡ beats_of r h w → ends r w seen b ≡ true
  ends-is h seen b e n =
      let m : length seen + 1 ≡ beats_of r b.head w = n ∙ ap (λ g. beats_of r g w) (sym e) in
      ⊎_elim (λ s. s.0) (λ s. absurd (s.1 m)) (eqb_tells (length seen + 1) (beats_of r b.head w))

  ends-not : (h : H) (seen : List (BeatOf H w)) (b : BeatOf H w) → b.head ≡ h → length seen + 1 < beats_of r h w → ends r w seen b ≡ false
  ends-not h seen b e lt =
      let m : beats_of r b.head w ≡ beats_of r h w = ap (λ g. beats_of r g w) e in
      ⊎_elim (λ s. let q : length seen + 1 ≡ beats_of r b.head w = s.1 in absurd (omega arith)) (λ s. s.0)
      (eqb_tells (length seen + 1) (beats_of r b.head w))

  -- the last beats of a message leave nothing
  rest-over : (h : H) (seen bs o : List (BeatOf H w)) → length seen + length bs ≡ beats_of r h w → bs ≢ [] → Heads h bs →
      rest_after r w seen (bs ++ o) ≡ rest_after r w [] o
  rest-over h seen [] o n ne heads = absurd (ne refl)
  rest-over h seen (b ∷ []) o n ne heads = rw (ends-is h seen b (heads 0 b refl) (omega arith)) refl
  rest-over h seen (b ∷ c ∷ bs) o n ne heads =
      let k : length (seen ++ b ∷ []) ≡ length seen + 1 = length_push seen b in
      rw (ends-not h seen b (heads 0 b refl) (omega arith))
      (rest-over h (seen ++ b ∷ []) (c ∷ bs) o (omega arith) (λ q. cc) (λ j x e. heads (suc j) x e))

  -- fewer beats than a message has stay
  rest-stays : (h : H) (seen bs : List (BeatOf H w)) → length seen + length bs < beats_of r h w → Heads h bs → rest_after r w seen bs ≡ seen ++ bs
  rest-stays h seen [] n heads = sym (append-nil seen)
  rest-stays h seen (b ∷ bs) n heads =
      let k : length (seen ++ b ∷ []) ≡ length seen + 1 = length_push seen b in
      rw (ends-not h seen b (heads 0 b refl) (omega arith))
      (rest-stays h (seen ++ b ∷ []) bs (omega arith) (λ j x e. heads (suc j) x e) ∙ append_assoc seen (b ∷ []) bs)

  -- the beats of a whole message don't change what is left of the others
  pub whole-rest : (m : Message H) (bs others : List (BeatOf H w)) → Spells r m w bs → rest_of r w (bs ++ others) ≡ rest_of r w others
  whole-rest m [] others s = refl
  whole-rest m (b ∷ bs) others s = rest-over m.head [] (b ∷ bs) others (let c : length (b ∷ bs) ≡ beats_of r m.head w = s.count in omega arith)
      (λ q. cc) (λ j x e. (s.each j x e).head)

  -- the first beats of a message, without its last one, are all left
  pub part-rest : (m : Message H) (bs more : List (BeatOf H w)) → Spells r m w (bs ++ more) → more ≢ [] → rest_of r w bs ≡ bs
  part-rest m bs [] s ne = absurd (ne refl)
  part-rest m bs (y ∷ more) s ne =
      let n : length (bs ++ y ∷ more) ≡ length bs + length (y ∷ more) = length-append bs (y ∷ more) in
      let c : length (bs ++ y ∷ more) ≡ beats_of r m.head w = s.count in
      rest-stays m.head [] bs (omega arith) (λ j x e. (s.each j x (sym (slice_get-left bs (y ∷ more) j (slice_get_within bs j x e)) ∙ e)).head)

  -- the rest of handed beats is the computed one
  pub RestIs : {bs : List (BeatOf H w)} {homes : List ℕ} {ms : List (Message H)} {rest : List (BeatOf H w)} → Handed r w bs homes ms rest →
      rest ≡ rest_of r w bs
  RestIs nothing = refl
  RestIs (begun m rest more l s n1 n2) = sym (part-rest m rest more s n2)
  RestIs (whole m bs others homes ms rest l s h) = RestIs h ∙ sym (whole-rest m bs others s)

  -- the rest is the same, however the list was read
  pub rest-unique : {x y : List (BeatOf H w)} {homes homes' : List ℕ} {ms ms' : List (Message H)} {rest rest' : List (BeatOf H w)} →
      Handed r w x homes ms rest → Handed r w y homes' ms' rest' → x ≡ y → rest ≡ rest'
  rest-unique h h' e = RestIs h ∙ ap (λ bs. rest_of r w bs) e ∙ sym (RestIs h')
