-- If no beat has a fault, the far beats due for a list begin those due for a longer list.
use Rattle.tl_convert.proofs.Names.{◌≡◌, ◌≤◌, ◌<◌, ◌+◌, ◌*◌, ◌/◌, ◌^◌, ℕ, zero, suc, Bool, true, false, cond, Option, None, Some, List, [], ◌∷◌, ◌++◌}
use Rattle.tl_convert.proofs.Names.{length, take, drop, map, refl, sym, ap, subst, ◌∙◌, arith, append_assoc, length-append, length_push, and_parts}
use Rattle.tl_convert.proofs.Names.{div-lt_iff_lt-mul, lt-div-mul-add, div-mul-le_self, mul-le-mul_right, slice_get, slice_index, ◌==◌, ◌&&◌, ◌||◌}
use Rattle.tl_convert.proofs.Names.{range_with_len, option_map_or, lane_of, Rules, BeatOf, Message, Cell, beats_of, per_beat, byte_on, lane_value}
use Rattle.tl_convert.proofs.Names.{lane_on, mask_at, is_bad, some_of, beat_at, layout, cell_of, message_of, ends, rest_of, fault_after, heads}
use Rattle.tl_convert.proofs.Names.{rest_heads, far_beats_of, part, due, mask_of-same, rest-snoc}
use Rattle.tl_msg.proofs.Firsts.{find_holds}
use Rattle.tl_convert.proofs.Extends.{Extends, more, extends-same, extends-front, take-some, take-grows, take-next, take-past, grows}
use Rattle.tl_convert.proofs.Comparisons.{true_equal}
use Rattle.tl_convert.proofs.Begins.{per-beat-some, more-due}
use Rattle.tl_convert.proofs.Finished.{finished_after, laid_after, homes_left, due_split, laid_more, homes_more, laid_homes, left_homes, left_count}
use Rattle.tl_convert.proofs.FarHeads.{NoFaults, IsRead, reads, KeepsHead, keeps_head, no-faults-less}

map_agree : {X : Type 0} (f g : ℕ → X) (s n c : ℕ) → ((t : ℕ) → t < s + c → f t ≡ g t) →
    take c (map f (range_with_len s n)) ≡ take c (map g (range_with_len s n))
map_agree f g s n zero h = refl
map_agree f g s zero (suc c) h = refl
map_agree f g s (suc n) (suc c) h =
    let e : f s ≡ g s = h s (omega arith) in
    let m : take c (map f (range_with_len (s + 1) n)) ≡ take c (map g (range_with_len (s + 1) n)) =
    map_agree f g (s + 1) n c (λ t l. h t (omega arith)) in
    ap (λ x. x ∷ take c (map f (range_with_len (s + 1) n))) e ∙ ap (λ q. g s ∷ q) m

map_same : {X : Type 0} (f g : ℕ → X) (xs : List ℕ) → ((t : ℕ) → f t ≡ g t) → map f xs ≡ map g xs
map_same f g [] h = refl
map_same f g (x ∷ xs) h = ap (λ y. y ∷ map f xs) (h x) ∙ ap (λ q. g x ∷ q) (map_same f g xs h)

some_same : (f g : ℕ → Bool) (a n : ℕ) → ((t : ℕ) → t < a + n → f t ≡ g t) → some_of f a n ≡ some_of g a n
some_same f g a zero h = refl
some_same f g a (suc n) h =
    ap (λ x. x || f (a + n)) (some_same f g a n (λ t l. h t (omega arith))) ∙ ap (λ b. some_of g a n || b) (h (a + n) (omega arith))

get_agree : {X : Type 0} (k i : ℕ) (xs ys : List X) → i < k → take k xs ≡ take k ys → slice_get xs i ≡ slice_get ys i
get_agree zero i xs ys l e = absurd (omega arith)
get_agree (suc k) i [] [] l e = refl
get_agree (suc k) i [] (y ∷ ys) l e = cc
get_agree (suc k) i (x ∷ xs) [] l e = cc
get_agree (suc k) zero (x ∷ xs) (y ∷ ys) l e = let h : x ≡ y = cc in ap (λ z. Some z) h
get_agree (suc k) (suc i) (x ∷ xs) (y ∷ ys) l e = let h : take k xs ≡ take k ys = cc in get_agree k i xs ys (omega arith) h

get_front : {X : Type 0} (xs ys : List X) (i : ℕ) → i < length xs → slice_get (xs ++ ys) i ≡ slice_get xs i
get_front [] ys i l = absurd (omega arith)
get_front (x ∷ xs) ys zero l = refl
get_front (x ∷ xs) ys (suc i) l = get_front xs ys i (omega arith)

first_front : (xs ys : List ℕ) → 0 < length xs → slice_index xs 0 ≡ slice_index (xs ++ ys) 0
first_front [] ys l = absurd (omega arith)
first_front (x ∷ xs) ys l = refl

module _ {H : Type 0} (r : Rules H) (h : H) (home v : ℕ) (wide : 0 < v) where
  abbrev told : List Cell → Message H
  told cells = record { head = h; home = home; cells = cells }

  abbrev beat_of : ℕ → List ℕ → Bool → BeatOf H v
  beat_of n ls b = record { head = h; mask = n; lanes = ls; corrupt = b }

  -- the byte of a beat is below the beat's end
  below_end : (xs : List Cell) (t l i : ℕ) → byte_on r (told xs) v t l ≡ Some i → i < t * per_beat r h v + per_beat r h v
  below_end xs t l i e =
      let f = find_holds (λ i. (i / per_beat r h v == t) && (lane_of home i v == l)) (range_with_len 0 (2 ^ r.size h)) i e in
      let q : i / per_beat r h v ≡ t = true_equal (i / per_beat r h v) t (and_parts _ _ f).0 in
      subst (λ x. i < x * per_beat r h v + per_beat r h v) q (lt-div-mul-add (per-beat-some r v wide h))

  -- beats of two messages whose first k bytes are the same
  module _ (xs ys : List Cell) (k : ℕ) (same : take k xs ≡ take k ys) (t : ℕ) (fits : t * per_beat r h v + per_beat r h v ≤ k) where
    get_same : (l : ℕ) {B : Type 0} (f : Cell → B) (z u : B) (o : Option ℕ) → byte_on r (told xs) v t l ≡ o →
        option_map_or (λ i. option_map_or f (slice_get xs i) z) o u ≡ option_map_or (λ i. option_map_or f (slice_get ys i) z) o u
    get_same l f z u None e = refl
    get_same l f z u (Some i) e =
        let b : i < t * per_beat r h v + per_beat r h v = below_end xs t l i e in
        ap (λ c. option_map_or f c z) (get_agree k i xs ys (omega arith) same)

    pub beat_same : beat_at r (told xs) v t ≡ beat_at r (told ys) v t
    beat_same =
        let masks : mask_at r (told xs) v t ≡ mask_at r (told ys) v t =
        mask_of-same (λ l. r.masked && lane_on r (told xs) v t l) (λ l. r.masked && lane_on r (told ys) v t l) v
        (λ l. ap (λ b. r.masked && b) (get_same l (λ c. c.on) _ false (byte_on r (told xs) v t l) refl)) in
        let lanes : map (lane_value r (told xs) v t) (range_with_len 0 v) ≡ map (lane_value r (told ys) v t) (range_with_len 0 v) =
        map_same (lane_value r (told xs) v t) (lane_value r (told ys) v t) (range_with_len 0 v)
        (λ l. get_same l (λ c. c.byte) 0 0 (byte_on r (told xs) v t l) refl) in
        let corrupts : some_of (is_bad r (told xs)) (t * per_beat r h v) (per_beat r h v) ≡ some_of (is_bad r (told ys)) (t * per_beat r h v)
        (per_beat r h v) =
        some_same (is_bad r (told xs)) (is_bad r (told ys)) (t * per_beat r h v) (per_beat r h v)
        (λ i l. ap (λ c. option_map_or (λ c. c.bad) c false) (get_agree k i xs ys (omega arith) same)) in
        ap (λ n. beat_of n (map (lane_value r (told xs) v t) (range_with_len 0 v))
        (some_of (is_bad r (told xs)) (t * per_beat r h v) (per_beat r h v))) masks ∙
        ap (λ ls. beat_of (mask_at r (told ys) v t) ls (some_of (is_bad r (told xs)) (t * per_beat r h v) (per_beat r h v))) lanes ∙
        ap (λ b. beat_of (mask_at r (told ys) v t) (map (lane_value r (told ys) v t) (range_with_len 0 v)) b) corrupts

cond_take : {X : Type 0} (c : Bool) (k : ℕ) (xs ys : List X) → take k xs ≡ take k ys → take k (cond c xs []) ≡ take k (cond c ys [])
cond_take true k xs ys e = e
cond_take false k xs ys e = refl

module _ {H : Type 0} (r : Rules H) (exact : (x y : H) → r.same x y ≡ true → x ≡ y) (w v : ℕ) (near : 0 < w) (far : 0 < v) where
  -- the far beats of which every byte has come don't depend on the bytes after them
  cells_agree : (h : H) (x : ℕ) (bs cs : List (BeatOf H w)) →
      take (length bs * per_beat r h w) (message_of r h w x bs).cells ≡ take (length bs * per_beat r h w) (message_of r h w x (bs ++ cs)).cells
  cells_agree h x bs cs =
      cond_take (r.carries h) (length bs * per_beat r h w) _ _
      (map_agree (λ i. cell_of r h w (lane_of x i w) (slice_get bs (i / per_beat r h w)))
      (λ i. cell_of r h w (lane_of x i w) (slice_get (bs ++ cs) (i / per_beat r h w))) 0 (2 ^ r.size h) (length bs * per_beat r h w)
      (λ t l. let k : t < length bs * per_beat r h w = omega arith in
      ap (λ o. cell_of r h w (lane_of x t w) o)
      (sym (get_front bs cs (t / per_beat r h w) ((div-lt_iff_lt-mul (per-beat-some r w near h)).1 k)))))

  laid_agree : (h : H) (x : ℕ) (bs cs : List (BeatOf H w)) (c : ℕ) → c ≡ far_beats_of r h w v (length bs) →
      take c (layout r (message_of r h w x bs) v) ≡ take c (layout r (message_of r h w x (bs ++ cs)) v)
  laid_agree h x bs cs c e =
      map_agree (beat_at r (message_of r h w x bs) v) (beat_at r (message_of r h w x (bs ++ cs)) v) 0 (beats_of r h v) c
      (λ t l.
      let k : ℕ = length bs * per_beat r h w in
      let p : ℕ = per_beat r h v in
      let n : suc t ≤ k / p = omega arith in
      let m : suc t * p ≤ k / p * p = mul-le-mul_right p n in
      let o : k / p * p ≤ k = div-mul-le_self k p in
      beat_same r h x v far (message_of r h w x bs).cells (message_of r h w x (bs ++ cs)).cells k (cells_agree h x bs cs) t (omega arith))

  -- one more near beat
  one_part : (home : ℕ) (homes : List ℕ) (b : BeatOf H w) (rest : List (BeatOf H w)) (t : Bool) →
      (0 < length rest → home ≡ slice_index homes 0) → KeepsHead rest b →
      Extends (part r w v home rest)
      (cond t (layout r (message_of r b.head w (slice_index homes 0) (rest ++ b ∷ [])) v) [] ++
      part r w v (slice_index (cond t (drop 1 homes) homes) 0) (cond t [] (rest ++ b ∷ [])))
  one_part home homes b [] t e fine = more [] _
  one_part home homes b (x ∷ xs) true e fine =
      let g : b.head ≡ x.head = fine in
      let c : ℕ = far_beats_of r x.head w v (length (x ∷ xs)) in
      subst (λ h. Extends (part r w v home (x ∷ xs)) (layout r (message_of r h w (slice_index homes 0) (x ∷ (xs ++ b ∷ []))) v ++ [])) (sym g)
      (subst (λ y. Extends (part r w v home (x ∷ xs)) (layout r (message_of r x.head w y (x ∷ (xs ++ b ∷ []))) v ++ [])) (e (omega arith))
      (rw (laid_agree x.head home (x ∷ xs) (b ∷ []) c refl) (take-some c (layout r (message_of r x.head w home (x ∷ (xs ++ b ∷ []))) v) [])))
  one_part home homes b (x ∷ xs) false e fine =
      let n : length (xs ++ b ∷ []) ≡ length xs + 1 = length_push xs b in
      let c : ℕ = far_beats_of r x.head w v (length (x ∷ xs)) in
      subst (λ y. Extends (part r w v home (x ∷ xs)) (part r w v y (x ∷ (xs ++ b ∷ [])))) (e (omega arith))
      (rw (laid_agree x.head home (x ∷ xs) (b ∷ []) c refl)
      (take-grows c (far_beats_of r x.head w v (length (x ∷ (xs ++ b ∷ [])))) (layout r (message_of r x.head w home (x ∷ (xs ++ b ∷ []))) v)
      (more-due r w v far x.head (length (x ∷ xs)) (length (x ∷ (xs ++ b ∷ []))) (omega arith))))

  -- the far beats due after one more beat, in terms of those that were laid out and the rest before it
  pub due_more : (bs : List (BeatOf H w)) (b : BeatOf H w) (homes : List ℕ) →
      due r w v (bs ++ b ∷ []) homes ≡
      laid_after r w v [] homes bs ++
      (cond (ends r w (rest_of r w bs) b) (layout r (message_of r b.head w (slice_index (homes_left r w v [] homes bs) 0) (rest_of r w bs ++ b ∷ []))
      v) [] ++
      part r w v (slice_index (cond (ends r w (rest_of r w bs) b) (drop 1 (homes_left r w v [] homes bs)) (homes_left r w v [] homes bs)) 0)
      (cond (ends r w (rest_of r w bs) b) [] (rest_of r w bs ++ b ∷ [])))
  due_more bs b homes =
      due_split r w v [] homes (bs ++ b ∷ []) ∙
      ap (λ q. q ++ part r w v (slice_index (homes_left r w v [] homes (bs ++ b ∷ [])) 0) (rest_of r w (bs ++ b ∷ [])))
      (laid_more r w v [] homes bs b) ∙
      append_assoc (laid_after r w v [] homes bs) _ _ ∙
      ap (λ q. laid_after r w v [] homes bs ++
      (cond (ends r w (rest_of r w bs) b) (layout r (message_of r b.head w (slice_index (homes_left r w v [] homes bs) 0) (rest_of r w bs ++ b ∷ []))
      v) [] ++
      part r w v (slice_index q 0) (rest_of r w (bs ++ b ∷ [])))) (homes_more r w v [] homes bs b) ∙
      ap (λ q. laid_after r w v [] homes bs ++
      (cond (ends r w (rest_of r w bs) b) (layout r (message_of r b.head w (slice_index (homes_left r w v [] homes bs) 0) (rest_of r w bs ++ b ∷ []))
      v) [] ++
      part r w v (slice_index (cond (ends r w (rest_of r w bs) b) (drop 1 (homes_left r w v [] homes bs)) (homes_left r w v [] homes bs)) 0) q))
      (rest-snoc r w [] bs b)

  count_opened : (finished : List H) (rest : List (BeatOf H w)) (n : ℕ) → length (finished ++ rest_heads r w rest) ≤ n →
      (length finished ≤ n) × (0 < length rest → length finished < n)
  count_opened finished [] n l = let e : length (finished ++ []) ≡ length finished + 0 = length-append finished [] in
      (omega arith, λ k. absurd (omega arith))
  count_opened finished (x ∷ xs) n l =
      let e : length (finished ++ x.head ∷ []) ≡ length finished + 1 = length-append finished (x.head ∷ []) in (omega arith, λ k. omega arith)

  pub due_extends_one : (bs : List (BeatOf H w)) (b : BeatOf H w) (hs ks : List ℕ) → IsRead r exact w near bs → fault_after r bs b ≡ None →
      length (heads r w bs) ≤ length hs → Extends (due r w v bs hs) (due r w v (bs ++ b ∷ []) (hs ++ ks))
  due_extends_one bs b hs ks k fine l =
      let n = count_opened (finished_after r w [] bs) (rest_of r w bs) (length hs) (let e = ap (λ q. length q) k.heads_are in omega arith) in
      let c : length (homes_left r w v [] hs bs) + length (finished_after r w [] bs) ≡ length hs = left_count r w v [] hs bs n.0 in
      let u : homes_left r w v [] (hs ++ ks) bs ≡ homes_left r w v [] hs bs ++ ks = left_homes r w v [] hs ks bs n.0 in
      rw (due_split r w v [] hs bs, due_more bs b (hs ++ ks), laid_homes r w v [] hs ks bs n.0)
      (extends-front (laid_after r w v [] hs bs)
      (one_part (slice_index (homes_left r w v [] hs bs) 0) (homes_left r w v [] (hs ++ ks) bs) b (rest_of r w bs) (ends r w (rest_of r w bs) b)
      (λ some.
      let m = n.1 some in
      first_front (homes_left r w v [] hs bs) ks (omega arith) ∙ ap (λ q. slice_index q 0) (sym u))
      (keeps_head r exact bs b fine)))

  -- more homes change nothing of what is due
  due_homes : (bs : List (BeatOf H w)) (hs ks : List ℕ) → IsRead r exact w near bs → length (heads r w bs) ≤ length hs →
      due r w v bs hs ≡ due r w v bs (hs ++ ks)
  due_homes bs hs ks k l =
      let n = count_opened (finished_after r w [] bs) (rest_of r w bs) (length hs) (let e = ap (λ q. length q) k.heads_are in omega arith) in
      let c : length (homes_left r w v [] hs bs) + length (finished_after r w [] bs) ≡ length hs = left_count r w v [] hs bs n.0 in
      due_split r w v [] hs bs ∙
      ap (λ q. q ++ part r w v (slice_index (homes_left r w v [] hs bs) 0) (rest_of r w bs)) (sym (laid_homes r w v [] hs ks bs n.0)) ∙
      ap (λ q. laid_after r w v [] (hs ++ ks) bs ++ q)
      (part_home (rest_of r w bs) (slice_index (homes_left r w v [] hs bs) 0) (slice_index (homes_left r w v [] (hs ++ ks) bs) 0)
      (λ some.
      let m = n.1 some in
      first_front (homes_left r w v [] hs bs) ks (omega arith) ∙ ap (λ q. slice_index q 0) (sym (left_homes r w v [] hs ks bs n.0)))) ∙
      sym (due_split r w v [] (hs ++ ks) bs)
    where
      part_home : (rest : List (BeatOf H w)) (x y : ℕ) → (0 < length rest → x ≡ y) → part r w v x rest ≡ part r w v y rest
      part_home [] x y e = refl
      part_home (b ∷ bs) x y e = ap (λ z. part r w v z (b ∷ bs)) (e (omega arith))

  -- so it grows with the list and its homes
  pub due_extends : (bs : List (BeatOf H w)) (homes : ℕ → List ℕ) (i n : ℕ) → i ≤ n → NoFaults r bs n →
      ((k : ℕ) → Extends (homes k) (homes (suc k))) → ((k : ℕ) → length (heads r w (take k bs)) ≤ length (homes k)) →
      Extends (due r w v (take i bs) (homes i)) (due r w v (take n bs) (homes n))
  due_extends bs homes i n l f homes_grow enough =
      grows (λ k. due r w v (take k bs) (homes k)) i n l (λ k m. each k (slice_get bs k) refl m (homes_grow k) (enough k))
    where
      each : (k : ℕ) (o : Option (BeatOf H w)) → slice_get bs k ≡ o → k < n → {hs ks : List ℕ} → Extends hs ks →
          length (heads r w (take k bs)) ≤ length hs →
          Extends (due r w v (take k bs) hs) (due r w v (take (suc k) bs) ks)
      each k None e m (more hs ks) enough =
          subst (λ xs. Extends (due r w v (take k bs) hs) (due r w v xs (hs ++ ks))) (sym (take-past bs k e))
          (extends-same (due_homes (take k bs) hs ks (reads r exact w near bs k (no-faults-less k (omega arith) f)) enough))
      each k (Some b) e m (more hs ks) enough =
          subst (λ xs. Extends (due r w v (take k bs) hs) (due r w v xs (hs ++ ks))) (sym (take-next bs k b e))
          (due_extends_one (take k bs) b hs ks (reads r exact w near bs k (no-faults-less k (omega arith) f)) (f.none k b m e) enough)
