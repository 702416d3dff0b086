-- The relation between a converter and the beats that it represents, after one more near beat.
use Rattle.tl_convert.proofs.Names.{◌≡◌, ◌<◌, ◌+◌, ◌*◌, ◌≢◌, ◌++◌, ℕ, true, false, cond, Some, List, [], ◌∷◌, length, drop, slice_get, slice_index}
use Rattle.tl_convert.proofs.Names.{refl, sym, ap, subst, ◌∙◌, arith, ⊎_elim, append-nil, eqb_tells, length_push, nil_from_length, same_Some, Rules}
use Rattle.tl_convert.proofs.Names.{BeatOf, IsWidth, per_beat, beats_of, message_of, Handed, IsHandedWith, ends, rest_of, burst_of, burst_after}
use Rattle.tl_convert.proofs.Names.{with_home, homes_with, FitsMask, head_of, rest-snoc, more-carries, RestIs, due, far_beats_of, Filled, Run, Given}
use Rattle.tl_convert.proofs.Names.{Progress, StandsFor}
use Rattle.tl_convert.proofs.FarHanded.{spelled-heads, all-heads}
use Rattle.tl_convert.proofs.DueOne.{rest-begins}
use Rattle.tl_convert.proofs.DueStep.{open_home, due-more, homes-count, homes-left, no-rest}
use Rattle.tl_convert.proofs.Comparisons.{seam}

module _ {H : Type 0} (r : Rules H) {w : ℕ} where
  -- the burst that a rest has begun, by its first beat
  open-burst : (rest : List (BeatOf H w)) → rest ≢ [] → (h : H) × (head_of rest ≡ Some h) × (burst_of r rest ≡ Some (h, length rest))
  open-burst [] ne = absurd (ne refl)
  open-burst (b ∷ bs) ne = (b.head, refl, refl)

  rest-open : (rest : List (BeatOf H w)) (h : H) (count : ℕ) → burst_of r rest ≡ Some (h, count) →
      (rest ≢ []) × (head_of rest ≡ Some h) × (count ≡ length rest)
  rest-open [] h count e = absurd (cc)
  rest-open (b ∷ bs) h count e =
      let pair : (b.head, length (b ∷ bs)) ≡ (h, count) = same_Some {A = H × ℕ} (b.head, length (b ∷ bs)) (h, count) e in
      ((λ q. cc), ap (λ y. Some (y.0)) pair, sym (ap (λ y. y.1) pair))

  pub burst-head : (rest : List (BeatOf H w)) (g : H) → head_of rest ≡ Some g → burst_of r rest ≡ Some (g, length rest)
  burst-head [] g e = absurd (cc)
  burst-head (b ∷ bs) g e = let s : b.head ≡ g = same_Some {A = H} b.head g e in ap (λ h. Some (h, length (b ∷ bs))) s

  head-of-more : (rest : List (BeatOf H w)) (b : BeatOf H w) → ((g : H) → head_of rest ≡ Some g → g ≡ b.head) → head_of (rest ++ b ∷ []) ≡ Some b.head
  head-of-more [] b heads = refl
  head-of-more (a ∷ as_) b heads = ap Some (heads a.head refl)

  homes-open : (x : ℕ) (rest : List (BeatOf H w)) (homes : List ℕ) → rest ≢ [] → with_home r x rest homes ≡ homes ++ []
  homes-open x [] homes ne = absurd (ne refl)
  homes-open x (a ∷ rest) homes ne = sym (append-nil homes)

module _ {H : Type 0} {w v : ℕ} (r : Rules H) (ww : IsWidth w) (vw : IsWidth v)
    (partial_masked : (h : H) → r.partial h ≡ true → r.masked ≡ true)
    (masked_address : r.masked ≡ true → (h : H) (x y : ℕ) → r.lane_address h x ≡ r.lane_address h y)
    (old : Progress H v) (bs : List (BeatOf H w)) (homes : List ℕ) (before : StandsFor r old bs homes)
    (b : BeatOf H w) (home x index : ℕ) (index_is : index ≡ length (rest_of r w bs)) (inside : index < beats_of r b.head w)
    (held : (h : H) (count : ℕ) → old.burst ≡ Some (h, count) → b.head ≡ h) (fits : FitsMask r b)
    (opened : index ≡ 0 → x ≡ r.lane_address b.head home) (kept : index ≢ 0 → x ≡ old.home) where
  here : Handed r w bs homes before.handed.0 (rest_of r w bs)
  here = (let P : List (BeatOf H w) → Type 0 = λ q. Handed r w bs homes before.handed.0 q in subst P (RestIs r w before.handed.2) before.handed.2)

  first : index ≡ 0 → rest_of r w bs ≡ []
  first z = nil_from_length (rest_of r w bs) (sym index_is ∙ z)

  later : index ≢ 0 → rest_of r w bs ≢ []
  later ne e = ne (index_is ∙ ap length e)

  heads : (g : H) → head_of (rest_of r w bs) ≡ Some g → g ≡ b.head
  heads g e = sym (held g (length (rest_of r w bs)) (before.burst_is ∙ burst-head r (rest_of r w bs) g e))

  -- the open burst
  open-is : rest_of r w bs ≢ [] → old.burst ≡ Some (b.head, length (rest_of r w bs))
  open-is ne =
      let o = open-burst r (rest_of r w bs) ne in
      before.burst_is ∙ o.2 ∙ ap (λ h. Some (h, length (rest_of r w bs))) (heads o.0 o.1)

  home-turn : rest_of r w bs ≢ [] → slice_get homes (length before.handed.0) ≡ Some old.home
  home-turn ne =
      let k = before.home_is b.head (length (rest_of r w bs)) (open-is ne) in
      let count : length homes ≡ length before.handed.0 + 1 =
      homes-count r w v ww vw partial_masked here ∙ ap (λ q. length before.handed.0 + cond q 0 1) (no-rest (rest_of r w bs) ne) in
      let size : length homes ≡ length k.0 + 1 = ap length k.1 ∙ length_push k.0 old.home in
      let at : length before.handed.0 ≡ length k.0 = omega arith in
      ap (λ q. slice_get q (length before.handed.0)) k.1 ∙ ap (slice_get (k.0 ++ old.home ∷ [])) at ∙ seam k.0 old.home

  home-masked : rest_of r w bs ≢ [] → r.masked ≡ true → old.home ≡ r.lane_address b.head 0
  home-masked ne masked = ⊎_elim
      (λ e. absurd (ne e))
      (λ (m, some_rest, begins).
      let same : m.home ≡ old.home = same_Some m.home old.home (sym begins.home_is ∙ home-turn ne) in
      let o = open-burst r (rest_of r w bs) ne in
      let head : m.head ≡ b.head = sym (all-heads m.head (rest_of r w bs)
      (spelled-heads r w v ww vw partial_masked m (rest_of r w bs) begins.more begins.spells) o.0 o.1) ∙ heads o.0 o.1 in
      sym same ∙ sym begins.lawful.home ∙ masked_address masked m.head m.home 0 ∙ ap (λ h. r.lane_address h 0) head)
      (rest-begins r w v ww vw partial_masked here)

  -- the earlier beats of the message
  pub run-of : Run r index x b old.partial (rest_of r w bs)
  run-of = record {
    index_is = index_is;
    inside = inside;
    heads = heads;
    mask = fits;
    home_is = λ masked. ⊎_elim
        (λ s. opened s.1 ∙ masked_address masked b.head home 0)
        (λ s. kept s.1 ∙ home-masked (later s.1) masked)
        (eqb_tells index 0);
    filled = λ ne.
        let e : old.home ≡ x = sym (kept ne) in
        let P : ℕ → Type 0 = λ y. Filled r (message_of r b.head w y (rest_of r w bs)) v (far_beats_of r b.head w v (length (rest_of r w bs)))
        (length (rest_of r w bs) * per_beat r b.head w) old.partial in
        subst P e (before.partial_is b.head (length (rest_of r w bs)) (open-is (later ne)));
  }

  open-home : (rest : List (BeatOf H w)) → rest ≢ [] → open_home old.home rest ≡ old.home ∷ []
  open-home [] ne = absurd (ne refl)
  open-home (a ∷ rest) ne = refl

  -- the homes go on by that of a message that the beat opens
  more-homes : (more : List ℕ) × (homes_with r bs homes b home ≡ homes ++ more) × (drop (length before.handed.0) homes ++ more ≡ x ∷ []) ×
      (rest_of r w bs ≢ [] → slice_index (drop (length before.handed.0) homes) 0 ≡ x)
  more-homes = ⊎_elim
      (λ s.
      let none_yet : rest_of r w bs ≡ [] = first s.1 in
      let left : drop (length before.handed.0) homes ≡ [] =
      homes-left r w v ww vw partial_masked here 0 (λ ne. absurd (ne none_yet)) ∙ ap (open_home 0) none_yet in (
        x ∷ [],
        ap (λ q. with_home r (r.lane_address b.head home) q homes) none_yet ∙ ap (λ y. homes ++ y ∷ []) (sym (opened s.1)),
        ap (λ q. q ++ x ∷ []) left,
        λ ne. absurd (ne none_yet),
      ))
      (λ s.
      let ne : rest_of r w bs ≢ [] = later s.1 in
      let left : drop (length before.handed.0) homes ≡ x ∷ [] =
      homes-left r w v ww vw partial_masked here old.home home-turn ∙ open-home (rest_of r w bs) ne ∙ ap (λ y. y ∷ []) (sym (kept s.1)) in (
        [],
        homes-open r (r.lane_address b.head home) (rest_of r w bs) homes ne,
        append-nil (drop (length before.handed.0) homes) ∙ left,
        λ _. ap (λ q. slice_index q 0) left,
      ))
      (eqb_tells index 0)

  -- the far beats that were due, followed by those that are returned, are those that are due
  pub due-grows : (partial : BeatOf H v) (out : List (BeatOf H v)) → Given r x b partial (rest_of r w bs) out →
      due r w v (bs ++ b ∷ []) (homes_with r bs homes b home) ≡ due r w v bs homes ++ out
  due-grows partial out given =
      let k = more-homes in
      ap (λ hs. due r w v (bs ++ b ∷ []) hs) k.1 ∙
      due-more r w v ww vw partial_masked here k.0 x b out k.2 k.3 given.due_is

  -- if the message is not complete, the beat is added to its rest
  goes-on : (rest : List (BeatOf H w)) → rest ≡ cond (ends r w (rest_of r w bs) b) [] (rest_of r w bs ++ b ∷ []) → rest ≢ [] →
      (rest ≡ rest_of r w bs ++ b ∷ []) × (r.carries b.head ≡ true)
  goes-on rest step ne = ⊎_elim
      (λ s. let t : ends r w (rest_of r w bs) b ≡ true = s.0 in absurd (ne (step ∙ ap (λ q. cond q [] (rest_of r w bs ++ b ∷ [])) t)))
      (λ s.
      let t : ends r w (rest_of r w bs) b ≡ false = s.0 in
      let n : length (rest_of r w bs) + 1 ≢ beats_of r b.head w = s.1 in
      (step ∙ ap (λ q. cond q [] (rest_of r w bs ++ b ∷ [])) t, more-carries r b.head w (λ e. n (omega arith))))
      (eqb_tells (length (rest_of r w bs) + 1) (beats_of r b.head w))

  -- the home of the message that is then open
  home-after : (others : List ℕ) × (homes_with r bs homes b home ≡ others ++ x ∷ [])
  home-after = ⊎_elim
      (λ s. (homes, ap (λ q. with_home r (r.lane_address b.head home) q homes) (first s.1) ∙ ap (λ y. homes ++ y ∷ []) (sym (opened s.1))))
      (λ s.
      let ne : rest_of r w bs ≢ [] = later s.1 in
      let k = before.home_is b.head (length (rest_of r w bs)) (open-is ne) in
      (k.0, homes-open r (r.lane_address b.head home) (rest_of r w bs) homes ne ∙ append-nil homes ∙ k.1 ∙ ap (λ y. k.0 ++ y ∷ []) (sym (kept s.1))))
      (eqb_tells index 0)

  -- and the converter represents the beats with this one
  pub stands-more : (new : Progress H v) (out : List (BeatOf H v)) → Given r x b new.partial (rest_of r w bs) out → new.home ≡ x →
      new.burst ≡ burst_after r (bs ++ b ∷ []) → IsHandedWith r (bs ++ b ∷ []) (homes_with r bs homes b home) →
      StandsFor r new (bs ++ b ∷ []) (homes_with r bs homes b home)
  stands-more new out given home_now burst_now handed =
      let rest : List (BeatOf H w) = rest_of r w (bs ++ b ∷ []) in
      let step : rest_of r w (bs ++ b ∷ []) ≡ cond (ends r w (rest_of r w bs) b) [] (rest_of r w bs ++ b ∷ []) = rest-snoc r w [] bs b in
      record {
        handed = handed;
        burst_is = burst_now;
        home_is = λ h count e. (home-after.0, home-after.1 ∙ ap (λ y. home-after.0 ++ y ∷ []) (sym home_now));
        partial_is = λ h count e.
            let o = rest-open r (rest_of r w (bs ++ b ∷ [])) h count (sym burst_now ∙ e) in
            let g = goes-on (rest_of r w (bs ++ b ∷ [])) step o.0 in
            let P : H → Type 0 = λ y. Filled r (message_of r y w x (rest_of r w bs ++ b ∷ [])) v
            (far_beats_of r y w v (length (rest_of r w bs ++ b ∷ [])))
            (length (rest_of r w bs ++ b ∷ []) * per_beat r y w) new.partial in
            let Q : ℕ → Type 0 = λ n. Filled r (message_of r h w x (rest_of r w bs ++ b ∷ [])) v (far_beats_of r h w v n) (n * per_beat r h w)
            new.partial in
            let R : List (BeatOf H w) → Type 0 = λ q. Filled r (message_of r h w x q) v (far_beats_of r h w v count) (count * per_beat r h w)
            new.partial in
            let S : ℕ → Type 0 = λ y. Filled r (message_of r h w y (rest_of r w (bs ++ b ∷ []))) v (far_beats_of r h w v count)
            (count * per_beat r h w) new.partial in
            let head : b.head ≡ h = same_Some {A = H} b.head h (sym (head-of-more r (rest_of r w bs) b heads) ∙ ap head_of (sym g.0) ∙ o.1) in
            let size : length (rest_of r w bs ++ b ∷ []) ≡ count = ap length (sym g.0) ∙ sym o.2 in
            subst S (sym home_now) (subst R (sym g.0) (subst Q size (subst P head (given.filled g.1))));
      }
