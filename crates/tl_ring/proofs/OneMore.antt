-- One more near beat: what is handed and what is due after it.
use Rattle.tl_ring.proofs.Names.{◌≡◌, ◌+◌, ◌<◌, ◌^◌, ◌==◌, ℕ, true, cond, List, [], ◌∷◌, ◌++◌, length, map, slice_index, refl, sym, ap, subst, ◌∙◌}
use Rattle.tl_ring.proofs.Names.{arith, append-nil, length-append, length-map, IsWidth, IsBeat, Rules, BeatOf, Handed, IsHanded, IsHandedWith}
use Rattle.tl_ring.proofs.Names.{IsAdmitted, rest_of, with_home, homes_with, ChannelLaws, none-handed, admitted-none, RestIs, due, layouts, part}
use mathlib.Core.List.{IsPrefix}
use Rattle.tl_burst.specs.Messages.{Message, beats_of}
use Rattle.tl_burst.specs.Begun.{rest_heads}
use Rattle.tl_burst.proofs.Burst.{some-beats}
use Rattle.tl_burst.proofs.BegunMessages.{heads-handed}
use Rattle.tl_convert.specs.Laws.{EarlierDue}
use Rattle.tl_convert.proofs.DueOne.{due-is}
use Rattle.tl_convert.proofs.DuePrefix.{due-prefix}
use Rattle.tl_convert.proofs.DueStep.{homes-count}

-- two fronts of one list that are of one length
same_front : {X : Type 0} (xs ys all : List X) → IsPrefix xs all → IsPrefix ys all → length xs ≡ length ys → xs ≡ ys
same_front [] [] all p q n = refl
same_front [] (y ∷ ys) all p q n = absurd (omega arith)
same_front (x ∷ xs) [] all p q n = absurd (omega arith)
same_front (x ∷ xs) (y ∷ ys) [] p q n = absurd (let e : x ∷ (xs ++ p.0) ≡ [] = p.1 in cc)
same_front (x ∷ xs) (y ∷ ys) (z ∷ all) (more, e) (others, f) n =
    let first : x ≡ z = cc in
    let second : y ≡ z = cc in
    let rest : xs ++ more ≡ all = cc in
    let rest' : ys ++ others ≡ all = cc in
    ap (λ t. t ∷ xs) (first ∙ sym second) ∙ ap (λ t. y ∷ t) (same_front xs ys all (more, rest) (others, rest') (omega arith))

module _ {H : Type 0} (r : Rules H) where
  -- one more beat leaves the homes, and may add one
  homes_grow : {w : ℕ} (x : ℕ) (rest : List (BeatOf H w)) (homes : List ℕ) → IsPrefix homes (with_home r x rest homes)
  homes_grow x [] homes = (x ∷ [], refl)
  homes_grow x (b ∷ rest) homes = ([], append-nil homes)

module _ {H : Type 0} (r : Rules H) {w v : ℕ} (near : IsWidth w) (far : IsWidth v)
    (partial_masked : (h : H) → r.partial h ≡ true → r.masked ≡ true) where
  -- the beats by themselves determine the number of homes
  same_count : {bs : List (BeatOf H w)} {homes homes' : List ℕ} {ms ms' : List (Message H)} {rest rest' : List (BeatOf H w)} →
      Handed r w bs homes ms rest → Handed r w bs homes' ms' rest' → length homes ≡ length homes'
  same_count {ms = ms} {ms' = ms'} {rest = rest} {rest' = rest'} h h' =
      let some : (g : H) → 0 < beats_of r g w = λ g. some-beats r g w near in
      let same : rest ≡ rest' = RestIs r w h ∙ sym (RestIs r w h') in
      let begun : map (λ m. m.head) ms ++ rest_heads r w rest ≡ map (λ m. m.head) ms' ++ rest_heads r w rest' =
      sym (heads-handed r w some h) ∙ heads-handed r w some h' in
      let count : length ms + length (rest_heads r w rest) ≡ length ms' + length (rest_heads r w rest') =
      simp (length-append, length-map) at (ap length begun) in
      let heads_same : length (rest_heads r w rest) ≡ length (rest_heads r w rest') = ap (λ t. length (rest_heads r w t)) same in
      let whole : length ms ≡ length ms' = omega arith in
      homes-count r w v near far partial_masked h ∙ ap (λ n. n + cond (length rest == 0) 0 1) whole ∙
      ap (λ t. length ms' + cond (length t == 0) 0 1) same ∙ sym (homes-count r w v near far partial_masked h')

  -- handed beats and an admitted one are handed, with one more home if it opens a message
  pub one_more : ChannelLaws r → {bs : List (BeatOf H w)} {homes : List ℕ} {ms : List (Message H)} {rest : List (BeatOf H w)} →
      Handed r w bs homes ms rest →
      (b : BeatOf H w) (home : ℕ) → IsBeat r b → r.lane_address b.head home < 2 ^ 64 → IsAdmitted r bs b →
      IsHandedWith r (bs ++ b ∷ []) (homes_with r bs homes b home)
  one_more laws {bs = bs} {homes = homes} {ms = ms} {rest = rest} handed b home is_beat small admitted =
      let before : IsHanded r bs = record { homes = homes; messages = ms; rest = rest; handed = handed } in
      none-handed r w near laws b home handed is_beat (admitted-none r w near laws bs b before admitted) small

  -- beats that were due stay due
  pub due_grows : {bs : List (BeatOf H w)} {homes : List ℕ} {ms : List (Message H)} {rest : List (BeatOf H w)} → Handed r w bs homes ms rest →
      (b : BeatOf H w) (home : ℕ) → IsHandedWith r (bs ++ b ∷ []) (homes_with r bs homes b home) →
      IsPrefix (due r w v bs homes) (due r w v (bs ++ b ∷ []) (homes_with r bs homes b home))
  due_grows {bs = bs} {homes = homes} handed b home (ms', rest', longer) =
      let earlier : EarlierDue r v bs (b ∷ []) (homes_with r bs homes b home) = due-prefix r w v near far partial_masked longer bs (b ∷ []) refl in
      let same : earlier.earlier_homes ≡ homes =
      same_front earlier.earlier_homes homes (homes_with r bs homes b home) earlier.begun
      (homes_grow r (r.lane_address b.head home) (rest_of r w bs) homes) (same_count earlier.handed handed) in
      let P : List ℕ → Type 0 = λ t. IsPrefix (due r w v bs t) (due r w v (bs ++ b ∷ []) (homes_with r bs homes b home)) in
      subst P same earlier.due_first

  -- the beats due for whole messages are their layouts
  pub whole_due : {bs : List (BeatOf H w)} {homes : List ℕ} {ms : List (Message H)} {rest : List (BeatOf H w)} → Handed r w bs homes ms rest →
      rest ≡ [] → due r w v bs homes ≡ layouts r v ms
  whole_due {homes = homes} {ms = ms} handed over =
      due-is r w v near far partial_masked handed ∙ ap (λ t. layouts r v ms ++ part r w v (slice_index homes (length ms)) t) over ∙
      append-nil (layouts r v ms)
