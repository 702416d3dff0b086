-- The far beats that one more near beat makes due.
use Rattle.tl_convert.proofs.Names.{◌≡◌, ◌<◌, ◌+◌, ◌==◌, ◌≢◌, ◌++◌, ℕ, suc, true, false, cond, Some, List, [], ◌∷◌, length, drop, slice_get}
use Rattle.tl_convert.proofs.Names.{slice_index, refl, sym, ap, ◌∙◌, arith, append_assoc, append-nil, length-append, Rules, BeatOf, IsWidth, Message}
use Rattle.tl_convert.proofs.Names.{beats_of, layout, Handed, nothing, begun, whole, ends, due_after, due, part, layouts}
use Rattle.tl_convert.proofs.FarHanded.{snoc-join, spelled-heads, shorter}
use Rattle.tl_convert.proofs.DuePrefix.{due-whole}
use Rattle.tl_convert.proofs.Comparisons.{not_equal}

-- the home of the burst that a rest has begun
abbrev pub open_home : {H : Type 0} {w : ℕ} → ℕ → List (BeatOf H w) → List ℕ
open_home home [] = []
open_home home (b ∷ bs) = home ∷ []

open-some : {H : Type 0} {w : ℕ} (x : ℕ) (rest : List (BeatOf H w)) → rest ≢ [] → open_home x rest ≡ x ∷ []
open-some x [] ne = absurd (ne refl)
open-some x (b ∷ bs) ne = refl

pub no-rest : {H : Type 0} {w : ℕ} (rest : List (BeatOf H w)) → rest ≢ [] → (length rest == 0) ≡ false
no-rest [] ne = absurd (ne refl)
no-rest (b ∷ bs) ne = not_equal (suc (length bs)) 0 (λ e. absurd (omega arith))

module _ {H : Type 0} (r : Rules H) (w v : ℕ) (ww : IsWidth w) (vw : IsWidth v) (partial_masked : (h : H) → r.partial h ≡ true → r.masked ≡ true)
  where
    -- beats that only begin a message are passed over
    pub begun-then : (h : H) (homes : List ℕ) (seen bs ys : List (BeatOf H w)) → ((j : ℕ) (b : BeatOf H w) → slice_get bs j ≡ Some b → b.head ≡ h) →
        length seen + length bs < beats_of r h w → due_after r w v seen homes (bs ++ ys) ≡ due_after r w v (seen ++ bs) homes ys
    begun-then h homes seen [] ys heads short = ap (λ q. due_after r w v q homes ys) (sym (append-nil seen))
    begun-then h homes seen (b ∷ bs) ys heads short =
        let s : beats_of r b.head w ≡ beats_of r h w = ap (λ g. beats_of r g w) (heads 0 b refl) in
        let t : ends r w seen b ≡ false = not_equal (length seen + 1) (beats_of r b.head w) (λ q. absurd (omega arith)) in
        let len : length (seen ++ b ∷ []) ≡ length seen + 1 = length-append seen (b ∷ []) in
        rw t (begun-then h homes (seen ++ b ∷ []) bs ys (λ j y q. heads (suc j) y q) (omega arith) ∙
        ap (λ q. due_after r w v q homes ys) (snoc-join seen b bs))

    -- the far beats due for handed beats and more are the layouts of their messages, followed by those due for their rest and more
    pub due-then : {bs : List (BeatOf H w)} {homes : List ℕ} {ms : List (Message H)} {rest : List (BeatOf H w)} → Handed r w bs homes ms rest →
        (ys : List (BeatOf H w)) (more : List ℕ) →
        due r w v (bs ++ ys) (homes ++ more) ≡ layouts r v ms ++ due_after r w v rest (drop (length ms) homes ++ more) ys
    due-then nothing ys more = refl
    due-then (begun m rest wanted lawful spells some left) ys more =
        let lt : length rest < beats_of r m.head w = shorter r w v ww vw partial_masked m rest wanted lawful spells some left in
        begun-then m.head (m.home ∷ more) [] rest ys (spelled-heads r w v ww vw partial_masked m rest wanted spells) (omega arith)
    due-then (whole m bs others homes ms rest lawful spells h) ys more =
        let parted : (bs ++ others) ++ ys ≡ bs ++ (others ++ ys) = append_assoc bs others ys in
        let step : layout r m v ++ due r w v (others ++ ys) (homes ++ more) ≡
        layout r m v ++ (layouts r v ms ++ due_after r w v rest (drop (length ms) homes ++ more) ys) =
        ap (λ q. layout r m v ++ q) (due-then h ys more) in
        ap (λ q. due r w v q (m.home ∷ (homes ++ more))) parted ∙
        due-whole r w v ww vw partial_masked m bs (others ++ ys) (homes ++ more) lawful spells ∙ rw append_assoc step

    -- there is a home for each message, and one more if a message is unfinished
    pub homes-count : {bs : List (BeatOf H w)} {homes : List ℕ} {ms : List (Message H)} {rest : List (BeatOf H w)} → Handed r w bs homes ms rest →
        length homes ≡ length ms + cond (length rest == 0) 0 1
    homes-count nothing = refl
    homes-count (begun m rest wanted lawful spells some left) = rw (no-rest rest some) refl
    homes-count (whole m bs others homes ms rest lawful spells h) = omega (arith, homes-count h)

    -- the homes that the whole messages leave
    pub homes-left : {bs : List (BeatOf H w)} {homes : List ℕ} {ms : List (Message H)} {rest : List (BeatOf H w)} → Handed r w bs homes ms rest →
        (x : ℕ) → (rest ≢ [] → slice_get homes (length ms) ≡ Some x) → drop (length ms) homes ≡ open_home x rest
    homes-left nothing x is = refl
    homes-left (begun m rest wanted lawful spells some left) x is =
        let e : m.home ≡ x = (let q : Some m.home ≡ Some x = is some in cc) in
        ap (λ y. y ∷ []) e ∙ sym (open-some x rest some)
    homes-left (whole m bs others homes ms rest lawful spells h) x is = homes-left h x is

    -- the far beats due for handed beats
    pub due-now : {bs : List (BeatOf H w)} {homes : List ℕ} {ms : List (Message H)} {rest : List (BeatOf H w)} → Handed r w bs homes ms rest →
        due r w v bs homes ≡ layouts r v ms ++ part r w v (slice_index (drop (length ms) homes) 0) rest
    due-now {bs = bs} {homes = homes} {ms = ms} {rest = rest} h =
        ap (λ q. due r w v q homes) (sym (append-nil bs)) ∙ ap (λ q. due r w v (bs ++ []) q) (sym (append-nil homes)) ∙ due-then h [] [] ∙
        ap (λ q. layouts r v ms ++ part r w v (slice_index q 0) rest) (append-nil (drop (length ms) homes))

    part-same : (y x : ℕ) (rest : List (BeatOf H w)) → (rest ≢ [] → y ≡ x) → part r w v y rest ≡ part r w v x rest
    part-same y x [] same = refl
    part-same y x (b ∷ bs) same = ap (λ z. part r w v z (b ∷ bs)) (same (λ e. cc))

    -- one more beat makes those far beats due that it gives after its run
    pub due-more : {bs : List (BeatOf H w)} {homes : List ℕ} {ms : List (Message H)} {rest : List (BeatOf H w)} → Handed r w bs homes ms rest →
        (more : List ℕ) (x : ℕ) (b : BeatOf H w) (out : List (BeatOf H v)) → drop (length ms) homes ++ more ≡ x ∷ [] →
        (rest ≢ [] → slice_index (drop (length ms) homes) 0 ≡ x) →
        ((hs : List ℕ) → slice_index hs 0 ≡ x → due_after r w v rest hs (b ∷ []) ≡ part r w v x rest ++ out) →
        due r w v (bs ++ b ∷ []) (homes ++ more) ≡ due r w v bs homes ++ out
    due-more {homes = homes} {ms = ms} {rest = rest} h more x b out left same step =
        let now : part r w v (slice_index (drop (length ms) homes) 0) rest ≡ part r w v x rest =
        part-same (slice_index (drop (length ms) homes) 0) x rest same in
        let all : layouts r v ms ++ (part r w v x rest ++ out) ≡ (layouts r v ms ++ part r w v x rest) ++ out =
        sym (append_assoc (layouts r v ms) (part r w v x rest) out) in
        due-then h (b ∷ []) more ∙ ap (λ q. layouts r v ms ++ q) (step (drop (length ms) homes ++ more) (ap (λ q. slice_index q 0) left)) ∙ all ∙
        ap (λ q. (layouts r v ms ++ q) ++ out) (sym now) ∙ ap (λ q. q ++ out) (sym (due-now h))
