-- The messages that begin in far beats, in terms of the near beats that make them due, if no near beat has a fault.
use Rattle.tl_convert.proofs.Names.{◌≡◌, ◌≤◌, ◌<◌, ◌+◌, ◌-◌, ◌≢◌, ◌↔◌, ◌⊎◌, inl, inr, ℕ, zero, suc, Bool, true, false, cond, Option, None, Some, List}
use Rattle.tl_convert.proofs.Names.{[], ◌∷◌, ◌++◌, length, take, refl, sym, ap, subst, ◌∙◌, arith, zero-le, append_assoc, append-nil, length_push}
use Rattle.tl_convert.proofs.Names.{slice_get, mask_fits, continuing_fault, Rules, BeatOf, beats_of, ends, rest_of, fault_after, heads, left}
use Rattle.tl_convert.proofs.Names.{rest_heads, far_beats_of, due, rest-snoc}
use Rattle.tl_msg.specs.Firsts.{unless}
use Rattle.tl_msg.specs.declared.fault.BeatFault.TheVariants.{HeadChanged, Mask}
use Rattle.tl_msg.proofs.Firsts.{first_none, unless_none}
use Rattle.tl_convert.proofs.Extends.{Extends, more, extends-same, extends-front, extends-on, take-grows, take-next, take-past, grows}
use Rattle.tl_convert.proofs.Comparisons.{true_equal, false_apart}
use Rattle.tl_convert.proofs.Begins.{take-nil, some_beats, more-due, heads_open, heads_inside_one, left_open, left_inside_one}
use Rattle.tl_convert.proofs.Finished.{finished_after, finished_more, far_opened, heads_due}

-- none of the first i beats has a fault after those before it
pub record NoFaults {H : Type 0} (r : Rules H) {w : ℕ} (bs : List (BeatOf H w)) (i : ℕ) : Type 0 where
  pub none : (k : ℕ) (b : BeatOf H w) → k < i → slice_get bs k ≡ Some b → fault_after r (take k bs) b ≡ None

pub no-faults-start : {H : Type 0} (r : Rules H) {w : ℕ} (bs : List (BeatOf H w)) → NoFaults r bs 0
no-faults-start r bs = record { none = λ k b l e. absurd (omega arith) }

pub no-faults-less : {H : Type 0} {r : Rules H} {w : ℕ} {bs : List (BeatOf H w)} {n : ℕ} (i : ℕ) → i ≤ n → NoFaults r bs n → NoFaults r bs i
no-faults-less i l f = record { none = λ k b m e. f.none k b (omega arith) e }

pub no-faults-next : {H : Type 0} {r : Rules H} {w : ℕ} {bs : List (BeatOf H w)} {n : ℕ} (b : BeatOf H w) → slice_get bs n ≡ Some b →
    fault_after r (take n bs) b ≡ None → NoFaults r bs n → NoFaults r bs (suc n)
no-faults-next {H} {r} {w} {bs} {n} b e fine f = record { none = λ k c l g. at_last k c l g (split k l) }
  where
    split : (k : ℕ) → k < suc n → (k ≡ n) ⊎ (k < n)
    split k l = grind arith

    at_last : (k : ℕ) (c : BeatOf H w) → k < suc n → slice_get bs k ≡ Some c → (k ≡ n) ⊎ (k < n) → fault_after r (take k bs) c ≡ None
    at_last k c l g (inl s) =
        let same : b ≡ c = let h : slice_get bs n ≡ Some c = ap (λ i. slice_get bs i) (sym s) ∙ g in cc in
        ap (λ i. fault_after r (take i bs) c) s ∙ ap (λ x. fault_after r (take n bs) x) (sym same) ∙ fine
    at_last k c l g (inr s) = f.none k c s g

-- a beat inside a burst has its head
abbrev pub KeepsHead : {H : Type 0} {w : ℕ} → (rest : List (BeatOf H w)) → BeatOf H w → Type 0
KeepsHead [] b = 0 ≤ 0
KeepsHead (x ∷ xs) b = b.head ≡ x.head

pub keeps_head : {H : Type 0} (r : Rules H) {w : ℕ} → ((x y : H) → r.same x y ≡ true → x ≡ y) → (bs : List (BeatOf H w)) (b : BeatOf H w) →
    fault_after r bs b ≡ None → KeepsHead (rest_of r w bs) b
keeps_head {H} r {w} exact bs b fine = by_rest (rest_of r w bs) refl
  where
    inside : (h : H) → continuing_fault r h b ≡ None → b.head ≡ h
    inside h e =
        exact b.head h (unless_none (r.same b.head h) HeadChanged (first_none (unless (r.same b.head h) HeadChanged) (unless (mask_fits r b) Mask) e))

    by_rest : (rest : List (BeatOf H w)) → rest_of r w bs ≡ rest → KeepsHead rest b
    by_rest [] e = zero-le
    by_rest (x ∷ xs) e = inside x.head (rw e at fine)

module _ {H : Type 0} (r : Rules H) (exact : (x y : H) → r.same x y ≡ true → x ≡ y) (w : ℕ) (near : 0 < w) where
  -- the number of beats that are missing from the message of a rest, which is not 0
  abbrev pub lacks : List (BeatOf H w) → ℕ
  lacks [] = 0
  lacks (b ∷ bs) = beats_of r b.head w - length (b ∷ bs)

  abbrev pub IsShort : List (BeatOf H w) → Type 0
  IsShort [] = 0 ≤ 0
  IsShort (b ∷ bs) = length (b ∷ bs) < beats_of r b.head w

  -- the facts that follow from the heads of a list, in terms of its rest
  pub record IsRead (bs : List (BeatOf H w)) : Type 0 where
    pub heads_are : heads r w bs ≡ finished_after r w [] bs ++ rest_heads r w (rest_of r w bs)
    pub left_is : left r w bs ≡ lacks (rest_of r w bs)
    pub short : IsShort (rest_of r w bs)

  -- the same facts after one more beat
  step : (bs : List (BeatOf H w)) (b : BeatOf H w) (rest : List (BeatOf H w)) (t : Bool) → ends r w rest b ≡ t → KeepsHead rest b →
      (heads r w bs ≡ finished_after r w [] bs ++ rest_heads r w rest) × (left r w bs ≡ lacks rest) × IsShort rest →
      (heads r w (bs ++ b ∷ []) ≡ (finished_after r w [] bs ++ cond t (b.head ∷ []) []) ++ rest_heads r w (cond t [] (rest ++ b ∷ []))) ×
      (left r w (bs ++ b ∷ []) ≡ lacks (cond t [] (rest ++ b ∷ []))) × IsShort (cond t [] (rest ++ b ∷ []))
  step bs b [] true e fine (h, l, s) =
      let n : 0 + 1 ≡ beats_of r b.head w = true_equal (0 + 1) (beats_of r b.head w) e in (
        heads_open r w 0 bs b l ∙ ap (λ q. q ++ b.head ∷ []) (h ∙ append-nil (finished_after r w [] bs)) ∙ sym (append-nil _),
        left_open r w 0 bs b l ∙ omega arith,
        omega arith,
      )
  step bs b [] false e fine (h, l, s) =
      let n : 0 + 1 ≢ beats_of r b.head w = false_apart (0 + 1) (beats_of r b.head w) e in
      let p : 0 < beats_of r b.head w = some_beats r w near b.head in
      (heads_open r w 0 bs b l ∙ ap (λ q. q ++ b.head ∷ []) h, left_open r w 0 bs b l, omega arith)
  step bs b (x ∷ xs) true e fine (h, l, s) =
      let g : b.head ≡ x.head = fine in
      let n : length (x ∷ xs) + 1 ≡ beats_of r b.head w = true_equal (length (x ∷ xs) + 1) (beats_of r b.head w) e in
      let m : beats_of r b.head w ≡ beats_of r x.head w = ap (λ y. beats_of r y w) g in
      let k : left r w bs ≡ suc 0 = l ∙ omega arith in (
        heads_inside_one r w 0 0 bs b k ∙ h ∙ ap (λ y. finished_after r w [] bs ++ y ∷ []) (sym g) ∙ sym (append-nil _),
        left_inside_one r w 0 0 bs b k,
        omega arith,
      )
  step bs b (x ∷ xs) false e fine (h, l, s) =
      let g : b.head ≡ x.head = fine in
      let n : length (x ∷ xs) + 1 ≢ beats_of r b.head w = false_apart (length (x ∷ xs) + 1) (beats_of r b.head w) e in
      let m : beats_of r b.head w ≡ beats_of r x.head w = ap (λ y. beats_of r y w) g in
      let c : length (xs ++ b ∷ []) ≡ length xs + 1 = length_push xs b in
      let d : ℕ = beats_of r x.head w - length (x ∷ xs) - 1 in
      let k : left r w bs ≡ suc d = l ∙ omega arith in (
        heads_inside_one r w 0 d bs b k ∙ h ∙ ap (λ q. q ++ x.head ∷ []) (sym (append-nil (finished_after r w [] bs))),
        left_inside_one r w 0 d bs b k ∙ omega arith,
        omega arith,
      )

  pub is-read-none : IsRead []
  is-read-none = record { heads_are = refl; left_is = refl; short = omega arith }

  pub is-read-more : (bs : List (BeatOf H w)) (b : BeatOf H w) → fault_after r bs b ≡ None → IsRead bs → IsRead (bs ++ b ∷ [])
  is-read-more bs b fine k =
      let next = step bs b (rest_of r w bs) (ends r w (rest_of r w bs) b) refl (keeps_head r exact bs b fine) (k.heads_are, k.left_is, k.short) in
      record {
        heads_are = next.0 ∙ ap (λ q. q ++ rest_heads r w (cond (ends r w (rest_of r w bs) b) [] (rest_of r w bs ++ b ∷ [])))
            (sym (finished_more r w [] bs b)) ∙
            ap (λ q. finished_after r w [] (bs ++ b ∷ []) ++ rest_heads r w q) (sym (rest-snoc r w [] bs b));
        left_is = next.1 ∙ ap lacks (sym (rest-snoc r w [] bs b));
        short = subst IsShort (sym (rest-snoc r w [] bs b)) next.2;
      }

  -- each list without faults is read so
  pub reads : (bs : List (BeatOf H w)) (i : ℕ) → NoFaults r bs i → IsRead (take i bs)
  reads bs zero f = is-read-none
  reads bs (suc i) f = here (slice_get bs i) refl (reads bs i (no-faults-less i (omega arith) f))
    where
      here : (o : Option (BeatOf H w)) → slice_get bs i ≡ o → IsRead (take i bs) → IsRead (take (suc i) bs)
      here None e k = subst IsRead (sym (take-past bs i e)) k
      here (Some b) e k = subst IsRead (sym (take-next bs i b e)) (is-read-more (take i bs) b (f.none i b (omega arith) e) k)

  -- the next beat opens a message if and only if no beat is missing
  pub opens_is : (bs : List (BeatOf H w)) → IsRead bs → (left r w bs ≡ 0) ↔ (rest_of r w bs ≡ [])
  opens_is bs k = by_rest (rest_of r w bs) k.left_is k.short
    where
      by_rest : (rest : List (BeatOf H w)) → left r w bs ≡ lacks rest → IsShort rest → (left r w bs ≡ 0) ↔ (rest ≡ [])
      by_rest [] e s = (λ f. refl, λ f. e)
      by_rest (b ∷ rest) e s = (λ f. absurd (omega arith), λ f. cc)

  module _ (v : ℕ) (far : 0 < v) where
    some_far : (h : H) → 0 < beats_of r h v
    some_far = some_beats r v far

    first_of_one : (h : H) (c : ℕ) (hs : List H) → Extends (take c (h ∷ [])) (h ∷ hs)
    first_of_one h zero hs = more [] (h ∷ hs)
    first_of_one h (suc c) hs = rw (take-nil {A = H} c) (more (h ∷ []) hs)

    -- a message that has begun on the far side has begun on the near side, whatever the homes
    opened_there : (rest : List (BeatOf H w)) → Extends (far_opened r w v some_far rest) (rest_heads r w rest)
    opened_there [] = more [] []
    opened_there (b ∷ bs) = first_of_one b.head (far_beats_of r b.head w v (length (b ∷ bs))) []

    pub due_behind : (bs : List (BeatOf H w)) (homes : List ℕ) → IsRead bs → Extends (heads r v (due r w v bs homes)) (heads r w bs)
    due_behind bs homes k =
        rw (heads_due r w v some_far homes bs, k.heads_are) (extends-front (finished_after r w [] bs) (opened_there (rest_of r w bs)))

    -- one more near beat makes the same messages begin there, and perhaps one more
    one_more : (finished : List H) (b : BeatOf H w) (rest : List (BeatOf H w)) (t : Bool) → KeepsHead rest b →
        Extends (finished ++ far_opened r w v some_far rest)
        ((finished ++ cond t (b.head ∷ []) []) ++ far_opened r w v some_far (cond t [] (rest ++ b ∷ [])))
    one_more finished b [] t fine =
        rw (append-nil finished, append_assoc) (more finished (cond t (b.head ∷ []) [] ++ far_opened r w v some_far (cond t [] (b ∷ []))))
    one_more finished b (x ∷ xs) true fine =
        rw append_assoc
        (extends-front finished
        (subst (λ y. Extends (take (far_beats_of r x.head w v (length (x ∷ xs))) (x.head ∷ [])) (y ∷ []))
        (sym fine) (first_of_one x.head (far_beats_of r x.head w v (length (x ∷ xs))) [])))
    one_more finished b (x ∷ xs) false fine =
        let c : length (xs ++ b ∷ []) ≡ length xs + 1 = length_push xs b in
        rw (append-nil finished)
        (extends-front finished
        (take-grows (far_beats_of r x.head w v (length (x ∷ xs))) (far_beats_of r x.head w v (length (x ∷ (xs ++ b ∷ [])))) (x.head ∷ [])
        (more-due r w v far x.head (length (x ∷ xs)) (length (x ∷ (xs ++ b ∷ []))) (omega arith))))

    due_grows_one : (bs : List (BeatOf H w)) (b : BeatOf H w) (hs ks : List ℕ) → fault_after r bs b ≡ None →
        Extends (heads r v (due r w v bs hs)) (heads r v (due r w v (bs ++ b ∷ []) ks))
    due_grows_one bs b hs ks fine =
        rw (heads_due r w v some_far hs bs, heads_due r w v some_far ks (bs ++ b ∷ []), finished_more r w [] bs b, rest-snoc r w [] bs b)
        (one_more (finished_after r w [] bs) b (rest_of r w bs) (ends r w (rest_of r w bs) b) (keeps_head r exact bs b fine))

    -- so more near beats make no fewer begin, whatever the homes
    pub due_grows : (bs : List (BeatOf H w)) (homes : ℕ → List ℕ) (i n : ℕ) → i ≤ n → NoFaults r bs n →
        Extends (heads r v (due r w v (take i bs) (homes i))) (heads r v (due r w v (take n bs) (homes n)))
    due_grows bs homes i n l f = grows (λ k. heads r v (due r w v (take k bs) (homes k))) i n l (λ k m. each k (slice_get bs k) refl m)
      where
        each : (k : ℕ) (o : Option (BeatOf H w)) → slice_get bs k ≡ o → k < n →
            Extends (heads r v (due r w v (take k bs) (homes k))) (heads r v (due r w v (take (suc k) bs) (homes (suc k))))
        each k None e m =
            extends-on (extends-same (homes_free (take k bs)))
            (extends-same (ap (λ xs. heads r v (due r w v xs (homes (suc k)))) (sym (take-past bs k e))))
          where
            homes_free : (xs : List (BeatOf H w)) → heads r v (due r w v xs (homes k)) ≡ heads r v (due r w v xs (homes (suc k)))
            homes_free xs = heads_due r w v some_far (homes k) xs ∙ sym (heads_due r w v some_far (homes (suc k)) xs)
        each k (Some b) e m =
            subst (λ xs. Extends (heads r v (due r w v (take k bs) (homes k))) (heads r v (due r w v xs (homes (suc k)))))
            (sym (take-next bs k b e)) (due_grows_one (take k bs) b (homes k) (homes (suc k)) (f.none k b m e))
