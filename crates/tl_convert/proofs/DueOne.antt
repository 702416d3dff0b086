-- Near beats with their homes have one reading, and the far beats due are the same for every message that the rest begins.
use Rattle.tl_convert.proofs.Names.{◌≡◌, ◌≤◌, ◌<◌, ◌+◌, ◌≢◌, ◌⊎◌, ◌++◌, ℕ, true, Option, Some, List, [], ◌∷◌, length, take, slice_get, slice_index}
use Rattle.tl_convert.proofs.Names.{refl, sym, ap, subst, ◌∙◌, arith, inl, inr, ⊎_elim, append-nil, append_assoc, length-append}
use Rattle.tl_convert.proofs.Names.{get_or_from_slice_get, take-map-range_with_len, Rules, BeatOf, IsWidth, Message, beats_of, beat_at, layout}
use Rattle.tl_convert.proofs.Names.{IsLawful, Spells, Handed, nothing, begun, whole, message_of, part, due, far_beats_of, layouts, Begins, DueOf}
use Rattle.tl_convert.proofs.Names.{between, within, rest-unique}
use Rattle.tl_convert.proofs.FarHanded.{message-is, not-empty, far-proper, part-first, some-length}
use Rattle.tl_convert.proofs.DuePrefix.{due-begun, due-whole}

-- two fronts of one length
same-front : {A : Type 0} (xs ys o o' : List A) → length xs ≡ length ys → xs ++ o ≡ ys ++ o' → (xs ≡ ys) × (o ≡ o')
same-front [] [] o o' n e = (refl, e)
same-front [] (y ∷ ys) o o' n e = absurd (omega arith)
same-front (x ∷ xs) [] o o' n e = absurd (omega arith)
same-front (x ∷ xs) (y ∷ ys) o o' n e =
    let head : x ≡ y = cc in
    let tail : xs ++ o ≡ ys ++ o' = cc in
    let k = same-front xs ys o o' (omega arith) tail in
    (ap (λ z. z ∷ xs) head ∙ ap (λ zs. y ∷ zs) k.0, k.1)

module _ {H : Type 0} (r : Rules H) (w v : ℕ) (ww : IsWidth w) (vw : IsWidth v) (partial_masked : (h : H) → r.partial h ≡ true → r.masked ≡ true)
  where
    rest-shorter : {x : List (BeatOf H w)} {hs : List ℕ} {ms : List (Message H)} {rest : List (BeatOf H w)} → Handed r w x hs ms rest →
        length rest ≤ length x
    rest-shorter nothing = omega arith
    rest-shorter (begun m rest more l s n1 n2) = omega arith
    rest-shorter (whole m bs o hs ms rest l s t) =
        let k : length rest ≤ length o = rest-shorter t in
        let n : length (bs ++ o) ≡ length bs + length o = length-append bs o in
        omega arith

    -- a list that is only a rest has no whole message
    not-both : (m m' : Message H) (rest more bs o rest' : List (BeatOf H w)) (h' : List ℕ) (ms' : List (Message H)) →
        IsLawful r m → Spells r m w (rest ++ more) → rest ≢ [] → more ≢ [] → IsLawful r m' → Spells r m' w bs → Handed r w o h' ms' rest' →
        rest ≡ bs ++ o → ⊥
    not-both m m' rest more bs o rest' h' ms' l s n1 n2 l' s' t e =
        let same : rest ≡ rest' = rest-unique r w (begun m rest more l s n1 n2) (whole m' bs o h' ms' rest' l' s' t) e in
        let a : length rest ≡ length rest' = ap length same in
        let b : length rest' ≤ length o = rest-shorter t in
        let c : length rest ≡ length bs + length o = ap length e ∙ length-append bs o in
        let p : 0 < length bs = some-length bs (not-empty r w v ww vw partial_masked m' bs s') in
        omega arith

    head-is : (m : Message H) (b : BeatOf H w) (bs : List (BeatOf H w)) → Spells r m w (b ∷ bs) → b.head ≡ m.head
    head-is m b bs s = (s.each 0 b refl).head

    same-head : (m m' : Message H) (bs bs' o o' : List (BeatOf H w)) → Spells r m w bs → Spells r m' w bs' → bs ++ o ≡ bs' ++ o' → m.head ≡ m'.head
    same-head m m' [] bs' o o' s s' e = absurd (not-empty r w v ww vw partial_masked m [] s refl)
    same-head m m' (b ∷ bs) [] o o' s s' e = absurd (not-empty r w v ww vw partial_masked m' [] s' refl)
    same-head m m' (b ∷ bs) (c ∷ cs) o o' s s' e =
        let first : b ≡ c = cc in
        sym (head-is m b bs s) ∙ ap (λ y. y.head) first ∙ head-is m' c cs s'

    -- the messages are the same, however the list was read
    pub messages-unique : {x y : List (BeatOf H w)} {hs hs' : List ℕ} {ms ms' : List (Message H)} {rest rest' : List (BeatOf H w)} →
        Handed r w x hs ms rest → Handed r w y hs' ms' rest' → x ≡ y → hs ≡ hs' → ms ≡ ms'
    messages-unique nothing nothing e f = refl
    messages-unique nothing (begun m' rest' more' l' s' n1' n2') e f = refl
    messages-unique nothing (whole m' bs' o' h' ms' rest' l' s' t') e f = absurd (cc)
    messages-unique (begun m rest more l s n1 n2) nothing e f = refl
    messages-unique (begun m rest more l s n1 n2) (begun m' rest' more' l' s' n1' n2') e f = refl
    messages-unique (begun m rest more l s n1 n2) (whole m' bs' o' h' ms' rest' l' s' t') e f =
        absurd (not-both m m' rest more bs' o' rest' h' ms' l s n1 n2 l' s' t' e)
    messages-unique (whole m bs o hs ms rest l s t) nothing e f = absurd (cc)
    messages-unique (whole m bs o hs ms rest l s t) (begun m' rest' more' l' s' n1' n2') e f =
        absurd (not-both m' m rest' more' bs o rest hs ms l' s' n1' n2' l s t (sym e))
    messages-unique (whole m bs o hs ms rest l s t) (whole m' bs' o' hs' ms' rest' l' s' t') e f =
        let head : m.head ≡ m'.head = same-head m m' bs bs' o o' s s' e in
        let home : m.home ≡ m'.home = cc in
        let homes : hs ≡ hs' = cc in
        let n : length bs ≡ length bs' = s.count ∙ ap (λ h. beats_of r h w) head ∙ sym s'.count in
        let front = same-front bs bs' o o' n e in
        let same : m ≡ m' =
        sym (message-is r w v ww vw partial_masked m l bs s) ∙ ap (λ h. message_of r h w m.home bs) head ∙
        ap (λ x. message_of r m'.head w x bs) home ∙ ap (λ x. message_of r m'.head w m'.home x) front.0 ∙
        message-is r w v ww vw partial_masked m' l' bs' s' in
        ap (λ y. y ∷ ms) same ∙ ap (λ ys. m' ∷ ys) (messages-unique t t' front.1 homes)

    pub one-rest : (bs : List (BeatOf H w)) (homes : List ℕ) (ms ms' : List (Message H)) (rest rest' : List (BeatOf H w)) →
        Handed r w bs homes ms rest → Handed r w bs homes ms' rest' → (ms ≡ ms') × (rest ≡ rest')
    one-rest bs homes ms ms' rest rest' h h' = (messages-unique h h' refl refl, rest-unique r w h h' refl)

    -- the far beats due for a list are the layouts of its messages, followed by the far beats due for its rest
    pub due-is : {bs : List (BeatOf H w)} {homes : List ℕ} {ms : List (Message H)} {rest : List (BeatOf H w)} → Handed r w bs homes ms rest →
        due r w v bs homes ≡ layouts r v ms ++ part r w v (slice_index homes (length ms)) rest
    due-is nothing = refl
    due-is (begun m rest more l s n1 n2) =
        due-begun r w v ww vw partial_masked m rest more l s n1 n2 ∙ sym (part-first r w v ww vw partial_masked m rest more l s n1 n2)
    due-is (whole m bs o hs ms rest l s t) =
        let step : layout r m v ++ due r w v o hs ≡ layout r m v ++ (layouts r v ms ++ part r w v (slice_index hs (length ms)) rest) =
        ap (λ y. layout r m v ++ y) (due-is t) in
        due-whole r w v ww vw partial_masked m bs o hs l s ∙ rw append_assoc step

    part-of : (m : Message H) (home : Option ℕ) (rest : List (BeatOf H w)) → rest ≢ [] → (b : Begins r m home rest) →
        part r w v m.home rest ≡ take (far_beats_of r m.head w v (length rest)) (layout r m v)
    part-of m home rest ne b =
        let lt : far_beats_of r m.head w v (length rest) < beats_of r m.head v =
        far-proper r w v ww vw partial_masked m rest b.more b.lawful b.spells ne b.left in
        part-first r w v ww vw partial_masked m rest b.more b.lawful b.spells ne b.left ∙
        sym (take-map-range_with_len (beat_at r m v) 0 (beats_of r m.head v) (far_beats_of r m.head w v (length rest)) (omega arith))

    turn : (homes : List ℕ) (k x : ℕ) → slice_get homes k ≡ Some x → slice_index homes k ≡ x
    turn homes k x e = get_or_from_slice_get homes k x 0 e

    -- the far beats due in terms of the messages are the computed list
    pub due-computed : {bs : List (BeatOf H w)} {homes : List ℕ} {ms : List (Message H)} {rest : List (BeatOf H w)} {far : List (BeatOf H v)} →
        Handed r w bs homes ms rest → DueOf r w v ms homes rest far → far ≡ due r w v bs homes
    due-computed {homes = homes} {ms = ms} h between = sym (due-is h ∙ append-nil (layouts r v ms))
    due-computed {homes = homes} {ms = ms} h (within m rest ne b) =
        sym (due-is h ∙ ap (λ x. layouts r v ms ++ part r w v x rest) (turn homes (length ms) m.home b.home_is) ∙
        ap (λ y. layouts r v ms ++ y) (part-of m (slice_get homes (length ms)) rest ne b))

    -- and the computed list is due
    pub rest-begins : {bs : List (BeatOf H w)} {homes : List ℕ} {ms : List (Message H)} {rest : List (BeatOf H w)} → Handed r w bs homes ms rest →
        (rest ≡ []) ⊎ ((m : Message H) × (rest ≢ []) × (Begins r m (slice_get homes (length ms)) rest))
    rest-begins nothing = inl refl
    rest-begins (begun m rest more l s n1 n2) = inr (m, n1, record { lawful = l; home_is = refl; more = more; spells = s; left = n2 })
    rest-begins (whole m bs o hs ms rest l s t) = rest-begins t

    pub due-exists : {bs : List (BeatOf H w)} {homes : List ℕ} {ms : List (Message H)} {rest : List (BeatOf H w)} → Handed r w bs homes ms rest →
        DueOf r w v ms homes rest (due r w v bs homes)
    due-exists {bs = bs} {homes = homes} {ms = ms} {rest = rest} h = ⊎_elim
        (λ e.
        let P : List (BeatOf H w) → Type 0 = λ y. DueOf r w v ms homes y (due r w v bs homes) in
        let Q : List (BeatOf H v) → Type 0 = λ y. DueOf r w v ms homes [] y in
        let far : due r w v bs homes ≡ layouts r v ms =
        due-is h ∙ ap (λ y. layouts r v ms ++ part r w v (slice_index homes (length ms)) y) e ∙ append-nil (layouts r v ms) in
        subst P (sym e) (subst Q (sym far) between))
        (λ (m, ne, b).
        let Q : List (BeatOf H v) → Type 0 = λ y. DueOf r w v ms homes rest y in
        subst Q (due-computed h (within m rest ne b)) (within m rest ne b))
        (rest-begins h)
