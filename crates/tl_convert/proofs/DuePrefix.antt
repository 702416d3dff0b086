-- More near beats only add far beats at the end of those that are due.
use Rattle.tl_convert.proofs.Names.{◌≡◌, ◌≤◌, ◌<◌, ◌+◌, ◌-◌, ◌*◌, ◌≢◌, ◌⊎◌, ◌++◌, ℕ, true, List, [], ◌∷◌, length, map, refl, sym, ap, subst, ◌∙◌}
use Rattle.tl_convert.proofs.Names.{arith, inl, inr, ⊎_elim, append_assoc, length-append, range_with_len, mul-le-mul_right, Rules, BeatOf, IsWidth}
use Rattle.tl_convert.proofs.Names.{Message, per_beat, beats_of, beat_at, layout, IsLawful, Spells, Handed, nothing, begun, whole, due, far_beats_of}
use Rattle.tl_convert.proofs.Names.{per-pos, div-up, map-parts}
use mathlib.Core.List.{IsPrefix}
use Rattle.tl_convert.specs.Laws.{EarlierDue}
use Rattle.tl_convert.proofs.FarHanded.{first_beats, message-is, spelled-heads, whole-due, begun-due, shorter, not-empty, far-proper, part-first}

-- two cuts of a list: one is not after the other
cuts : {A : Type 0} (xs o ys cs : List A) → xs ++ o ≡ ys ++ cs →
    ((d : List A) × (ys ≡ xs ++ d) × (o ≡ d ++ cs)) ⊎ ((d : List A) × (xs ≡ ys ++ d) × (d ≢ []) × (cs ≡ d ++ o))
cuts [] o ys cs e = inl (ys, refl, e)
cuts (x ∷ xs) o [] cs e = inr (x ∷ xs, refl, (λ q. cc), sym e)
cuts (x ∷ xs) o (y ∷ ys) cs e =
    let head : x ≡ y = cc in
    let tail : xs ++ o ≡ ys ++ cs = cc in
    ⊎_elim
    (λ (d, p, q). inl (d, ap (λ z. z ∷ ys) (sym head) ∙ ap (λ zs. x ∷ zs) p, q))
    (λ (d, p, n, q). inr (d, ap (λ z. z ∷ xs) head ∙ ap (λ zs. y ∷ zs) p, n, q))
    (cuts xs o ys cs tail)

tail-nil : {A : Type 0} (xs ys : List A) → xs ++ ys ≡ [] → ys ≡ []
tail-nil [] ys e = e
tail-nil (x ∷ xs) ys e = absurd (cc)

module _ {H : Type 0} (r : Rules H) (w v : ℕ) (ww : IsWidth w) (vw : IsWidth v) (partial_masked : (h : H) → r.partial h ≡ true → r.masked ≡ true)
  where
    -- no near beats make no far beats due
    none-earlier : (cs : List (BeatOf H w)) (homes : List ℕ) → EarlierDue r v [] cs homes
    none-earlier cs homes =
        record { earlier_homes = []; begun = (homes, refl); messages = []; rest = []; handed = nothing; due_first = (due r w v cs homes, refl) }

    -- the far beats due for beats that begin a message
    pub due-begun : (m : Message H) (bs more : List (BeatOf H w)) → IsLawful r m → Spells r m w (bs ++ more) → bs ≢ [] → more ≢ [] →
        due r w v bs (m.home ∷ []) ≡ first_beats r m v (far_beats_of r m.head w v (length bs))
    due-begun m bs more lawful spells some left =
        let lt : length bs < beats_of r m.head w = shorter r w v ww vw partial_masked m bs more lawful spells some left in
        begun-due r w v ww vw partial_masked m.head m.home [] [] bs (spelled-heads r w v ww vw partial_masked m bs more spells) (omega arith) ∙
        part-first r w v ww vw partial_masked m bs more lawful spells some left

    -- the far beats due for a list whose first message is whole
    pub due-whole : (m : Message H) (bs others : List (BeatOf H w)) (homes : List ℕ) → IsLawful r m → Spells r m w bs →
        due r w v (bs ++ others) (m.home ∷ homes) ≡ layout r m v ++ due r w v others homes
    due-whole m bs others homes lawful spells =
        let count : length bs ≡ beats_of r m.head w = spells.count in
        whole-due r w v ww vw partial_masked m.head m.home homes others [] bs (λ j b e. (spells.each j b e).head)
        (λ e. not-empty r w v ww vw partial_masked m bs spells e) (omega arith) ∙
        ap (λ y. layout r y v ++ due r w v others homes) (message-is r w v ww vw partial_masked m lawful bs spells)

    -- the first beats of a message are the first ones of more of them
    first-more : (m : Message H) (k n : ℕ) → k ≤ n → IsPrefix (first_beats r m v k) (first_beats r m v n)
    first-more m k n le =
        let s : k + (n - k) ≡ n = omega arith in (
          map (beat_at r m v) (range_with_len k (n - k)),
          sym (map-parts (beat_at r m v) 0 k (n - k) k (omega arith)) ∙ ap (λ x. map (beat_at r m v) (range_with_len 0 x)) s,
        )

    -- more near beats only add far beats at the end of those that are due
    pub due-prefix : {x : List (BeatOf H w)} {homes : List ℕ} {ms : List (Message H)} {rest : List (BeatOf H w)} → Handed r w x homes ms rest →
        (bs cs : List (BeatOf H w)) → x ≡ bs ++ cs → EarlierDue r v bs cs homes
    due-prefix h [] cs e = none-earlier cs _
    due-prefix nothing (b ∷ bs) cs e = absurd (cc)
    due-prefix (begun m rest more lawful spells some left) (b ∷ bs) cs e =
        let S : List (BeatOf H w) → Type 0 = λ y. Spells r m w (y ++ more) in
        let joined : Spells r m w (((b ∷ bs) ++ cs) ++ more) = subst S e spells in
        let parted : Spells r m w ((b ∷ bs) ++ (cs ++ more)) = rw append_assoc at joined in
        let here : (b ∷ bs) ≢ [] = λ q. cc in
        let there : cs ++ more ≢ [] = λ q. left (tail-nil cs more q) in
        let len : length rest ≡ length (b ∷ bs) + length cs = ap length e ∙ length-append (b ∷ bs) cs in
        let le : length (b ∷ bs) * per_beat r m.head w ≤ length rest * per_beat r m.head w = grind (arith, mul-le-mul_right) in
        let up : far_beats_of r m.head w v (length (b ∷ bs)) ≤ far_beats_of r m.head w v (length rest) =
        div-up (length (b ∷ bs) * per_beat r m.head w) (length rest * per_beat r m.head w) (per_beat r m.head v) (per-pos r m v vw) le in
        let first : due r w v (b ∷ bs) (m.home ∷ []) ≡ first_beats r m v (far_beats_of r m.head w v (length (b ∷ bs))) =
        due-begun m (b ∷ bs) (cs ++ more) lawful parted here there in
        let all : due r w v ((b ∷ bs) ++ cs) (m.home ∷ []) ≡ first_beats r m v (far_beats_of r m.head w v (length rest)) =
        ap (λ y. due r w v y (m.home ∷ [])) (sym e) ∙ due-begun m rest more lawful spells some left in
        let pre = first-more m (far_beats_of r m.head w v (length (b ∷ bs))) (far_beats_of r m.head w v (length rest)) up in
        record {
          earlier_homes = m.home ∷ [];
          begun = ([], refl);
          messages = [];
          rest = b ∷ bs;
          handed = begun m (b ∷ bs) (cs ++ more) lawful parted here there;
          due_first = (pre.0, ap (λ y. y ++ pre.0) first ∙ pre.1 ∙ sym all);
        }
    due-prefix (whole m first others homes ms rest lawful spells h) (b ∷ bs) cs e = ⊎_elim
        (λ (d, p, q).
        let ih = due-prefix h d cs q in
        let near : due r w v (b ∷ bs) (m.home ∷ ih.earlier_homes) ≡ layout r m v ++ due r w v d ih.earlier_homes =
        ap (λ y. due r w v y (m.home ∷ ih.earlier_homes)) p ∙ due-whole m first d ih.earlier_homes lawful spells in
        let all : due r w v ((b ∷ bs) ++ cs) (m.home ∷ homes) ≡ layout r m v ++ due r w v (d ++ cs) homes =
        ap (λ y. due r w v y (m.home ∷ homes)) (sym e) ∙ due-whole m first others homes lawful spells ∙
        ap (λ y. layout r m v ++ due r w v y homes) q in
        let join : (layout r m v ++ due r w v d ih.earlier_homes) ++ ih.due_first.0 ≡ layout r m v ++ due r w v (d ++ cs) homes =
        rw append_assoc (ap (λ y. layout r m v ++ y) ih.due_first.1) in
        let P : List (BeatOf H w) → Type 0 = λ y. Handed r w y (m.home ∷ ih.earlier_homes) (m ∷ ih.messages) ih.rest in
        record {
          earlier_homes = m.home ∷ ih.earlier_homes;
          begun = (ih.begun.0, ap (λ y. m.home ∷ y) ih.begun.1);
          messages = m ∷ ih.messages;
          rest = ih.rest;
          handed = subst P (sym p) (whole m first d ih.earlier_homes ih.messages ih.rest lawful spells ih.handed);
          due_first = (ih.due_first.0, ap (λ y. y ++ ih.due_first.0) near ∙ join ∙ sym all);
        })
        (λ (d, p, ne, q).
        let S : List (BeatOf H w) → Type 0 = λ y. Spells r m w y in
        let parted : Spells r m w ((b ∷ bs) ++ d) = subst S p spells in
        let here : (b ∷ bs) ≢ [] = λ z. cc in
        let near : due r w v (b ∷ bs) (m.home ∷ []) ≡ first_beats r m v (far_beats_of r m.head w v (length (b ∷ bs))) =
        due-begun m (b ∷ bs) d lawful parted here ne in
        let proper : far_beats_of r m.head w v (length (b ∷ bs)) < beats_of r m.head v =
        far-proper r w v ww vw partial_masked m (b ∷ bs) d lawful parted here ne in
        let pre = first-more m (far_beats_of r m.head w v (length (b ∷ bs))) (beats_of r m.head v) (omega arith) in
        let all : due r w v ((b ∷ bs) ++ cs) (m.home ∷ homes) ≡ layout r m v ++ due r w v others homes =
        ap (λ y. due r w v y (m.home ∷ homes)) (sym e) ∙ due-whole m first others homes lawful spells in
        let join : first_beats r m v (far_beats_of r m.head w v (length (b ∷ bs))) ++ (pre.0 ++ due r w v others homes) ≡
        layout r m v ++ due r w v others homes = rw (← append_assoc) (ap (λ y. y ++ due r w v others homes) pre.1) in
        record {
          earlier_homes = m.home ∷ [];
          begun = (homes, refl);
          messages = [];
          rest = b ∷ bs;
          handed = begun m (b ∷ bs) d lawful parted here ne;
          due_first = (pre.0 ++ due r w v others homes, ap (λ y. y ++ (pre.0 ++ due r w v others homes)) near ∙ join ∙ sym all);
        })
        (cuts first others (b ∷ bs) cs e)
