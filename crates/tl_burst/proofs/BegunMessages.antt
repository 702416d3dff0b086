-- The heads of the messages that handed beats begin, and the number of beats that are missing from the last one.
use Rattle.tl_burst.proofs.Names.{◌≡◌, ◌≤◌, ◌<◌, ◌+◌, ◌-◌, ◌≢◌, ◌↔◌, ℕ, zero, suc, List, [], ◌∷◌, ◌++◌, length, map, refl, sym, ap, ◌∙◌, arith}
use Rattle.tl_burst.proofs.Names.{length-append, Rules, BeatOf, Message, beats_of, Spells, Handed, nothing, begun, whole, rest_of, heads_from, heads}
use Rattle.tl_burst.proofs.Names.{left_from, left, rest_heads}
use Rattle.tl_burst.proofs.RestOf.{RestIs}

module _ {H : Type 0} (r : Rules H) (w : ℕ) where
  -- the remaining beats of a message, and the beats after them
  left-after : (k : ℕ) (xs others : List (BeatOf H w)) → k ≡ length xs → left_from r w k (xs ++ others) ≡ left r w others
  left-after zero [] others e = refl
  left-after (suc k) [] others e = absurd (omega arith)
  left-after zero (x ∷ xs) others e = absurd (omega arith)
  left-after (suc k) (x ∷ xs) others e = left-after k xs others (omega arith)

  -- one beat more
  left-snoc : (k : ℕ) (bs : List (BeatOf H w)) (b : BeatOf H w) → left_from r w k (bs ++ b ∷ []) ≡ left_from r w (left_from r w k bs) (b ∷ [])
  left-snoc k [] b = refl
  left-snoc zero (x ∷ bs) b = left-snoc (beats_of r x.head w - 1) bs b
  left-snoc (suc k) (x ∷ bs) b = left-snoc k bs b

  left-first : (n : ℕ) (b : BeatOf H w) → n ≡ 0 → left_from r w n (b ∷ []) ≡ beats_of r b.head w - 1
  left-first zero b e = refl
  left-first (suc n) b e = absurd (omega arith)

  left-later : (n : ℕ) (b : BeatOf H w) → n ≢ 0 → left_from r w n (b ∷ []) ≡ n - 1
  left-later zero b ne = absurd (ne refl)
  left-later (suc n) b ne = omega arith

  pub left-begins : (bs : List (BeatOf H w)) (b : BeatOf H w) → left r w bs ≡ 0 → left r w (bs ++ b ∷ []) ≡ beats_of r b.head w - 1
  left-begins bs b e = left-snoc 0 bs b ∙ left-first (left r w bs) b e

  pub left-goes : (bs : List (BeatOf H w)) (b : BeatOf H w) → left r w bs ≢ 0 → left r w (bs ++ b ∷ []) ≡ left r w bs - 1
  left-goes bs b ne = left-snoc 0 bs b ∙ left-later (left r w bs) b ne

  left-inside : (k : ℕ) (xs : List (BeatOf H w)) → length xs ≤ k → left_from r w k xs ≡ k - length xs
  left-inside zero [] le = refl
  left-inside (suc k) [] le = omega arith
  left-inside zero (x ∷ xs) le = absurd (omega arith)
  left-inside (suc k) (x ∷ xs) le = left-inside k xs (omega arith) ∙ omega arith

  heads-after : (k : ℕ) (xs others : List (BeatOf H w)) → k ≡ length xs → heads_from r w k (xs ++ others) ≡ heads r w others
  heads-after zero [] others e = refl
  heads-after (suc k) [] others e = absurd (omega arith)
  heads-after zero (x ∷ xs) others e = absurd (omega arith)
  heads-after (suc k) (x ∷ xs) others e = heads-after k xs others (omega arith)

  -- beats inside a message open none
  pub heads-inside : (k : ℕ) (xs : List (BeatOf H w)) → length xs ≤ k → heads_from r w k xs ≡ []
  heads-inside zero [] le = refl
  heads-inside (suc k) [] le = refl
  heads-inside zero (x ∷ xs) le = absurd (omega arith)
  heads-inside (suc k) (x ∷ xs) le = heads-inside k xs (omega arith)

  -- the beats of a whole message
  first-beats : (m : Message H) (b : BeatOf H w) (bs : List (BeatOf H w)) → Spells r m w (b ∷ bs) → beats_of r b.head w - 1 ≡ length bs
  first-beats m b bs s =
      let n : length (b ∷ bs) ≡ beats_of r m.head w = s.count in
      let e : beats_of r b.head w ≡ beats_of r m.head w = ap (λ h. beats_of r h w) (s.each 0 b refl).head in
      omega arith

  left-whole : (m : Message H) (bs others : List (BeatOf H w)) → Spells r m w bs → left r w (bs ++ others) ≡ left r w others
  left-whole m [] others s = refl
  left-whole m (b ∷ bs) others s = left-after (beats_of r b.head w - 1) bs others (first-beats m b bs s)

  heads-whole : (m : Message H) (bs others : List (BeatOf H w)) → Spells r m w bs → bs ≢ [] → heads r w (bs ++ others) ≡ m.head ∷ heads r w others
  heads-whole m [] others s ne = absurd (ne refl)
  heads-whole m (b ∷ bs) others s ne =
      ap (λ hs. b.head ∷ hs) (heads-after (beats_of r b.head w - 1) bs others (first-beats m b bs s)) ∙
      ap (λ h. h ∷ heads r w others) (s.each 0 b refl).head

  -- the number of beats that are missing from the message that a rest has begun
  left-begun : (m : Message H) (rest more : List (BeatOf H w)) → Spells r m w (rest ++ more) → rest ≢ [] → left r w rest ≡ length more
  left-begun m [] more s ne = absurd (ne refl)
  left-begun m (b ∷ rest) more s ne =
      let n : beats_of r b.head w - 1 ≡ length (rest ++ more) = first-beats m b (rest ++ more) s in
      let sum : length (rest ++ more) ≡ length rest + length more = length-append rest more in
      left-inside (beats_of r b.head w - 1) rest (omega arith) ∙ omega arith

  heads-begun : (m : Message H) (rest more : List (BeatOf H w)) → Spells r m w (rest ++ more) → heads r w rest ≡ rest_heads r w rest
  heads-begun m [] more s = refl
  heads-begun m (b ∷ rest) more s =
      let n : beats_of r b.head w - 1 ≡ length (rest ++ more) = first-beats m b (rest ++ more) s in
      let sum : length (rest ++ more) ≡ length rest + length more = length-append rest more in
      ap (λ hs. b.head ∷ hs) (heads-inside (beats_of r b.head w - 1) rest (omega arith))

  -- no beat is missing if and only if no message is unfinished
  left-rest : {bs : List (BeatOf H w)} {homes : List ℕ} {ms : List (Message H)} {rest : List (BeatOf H w)} → Handed r w bs homes ms rest →
      (left r w bs ≡ 0) ↔ (rest ≡ [])
  left-rest nothing = (λ _. refl, λ _. refl)
  left-rest (begun m rest [] l s n1 n2) = absurd (n2 refl)
  left-rest (begun m rest (x ∷ more) l s n1 n2) = (
    λ e. let n : left r w rest ≡ length (x ∷ more) = left-begun m rest (x ∷ more) s n1 in
        absurd (omega arith),
    λ e. absurd (n1 e),
  )
  left-rest (whole m bs others homes ms rest l s h) = (
    λ e. (left-rest h).0 (sym (left-whole m bs others s) ∙ e),
    λ e. left-whole m bs others s ∙
        (left-rest h).1 e,
  )

  pub left-zero : {bs : List (BeatOf H w)} {homes : List ℕ} {ms : List (Message H)} {rest : List (BeatOf H w)} → Handed r w bs homes ms rest →
      (left r w bs ≡ 0) ↔ (rest_of r w bs ≡ [])
  left-zero h = (λ e. sym (RestIs r w h) ∙ (left-rest h).0 e, λ e. (left-rest h).1 (RestIs r w h ∙ e))

  -- the heads are those of the messages, and of the one that the rest has begun
  pub heads-handed : {bs : List (BeatOf H w)} {homes : List ℕ} {ms : List (Message H)} {rest : List (BeatOf H w)} → ((h : H) → 0 < beats_of r h w) →
      Handed r w bs homes ms rest →
      heads r w bs ≡ map (λ m. m.head) ms ++ rest_heads r w rest
  heads-handed some nothing = refl
  heads-handed some (begun m rest more l s n1 n2) = heads-begun m rest more s
  heads-handed some (whole m bs others homes ms rest l s h) =
      heads-whole m bs others s (λ e. let n : length bs ≡ beats_of r m.head w = s.count in let z : length bs ≡ 0 = ap length e in
      let p : 0 < beats_of r m.head w = some m.head in absurd (omega arith)) ∙
      ap (λ hs. m.head ∷ hs) (heads-handed some h)
