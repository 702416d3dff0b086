-- The far beats due, as those of the messages that were carried whole and those of the rest.
use Rattle.tl_convert.proofs.Names.{◌≡◌, ◌≤◌, ◌<◌, ◌+◌, ℕ, Bool, true, false, cond, List, [], ◌∷◌, ◌++◌, length, take, drop, refl, sym, ap, ◌∙◌}
use Rattle.tl_convert.proofs.Names.{arith, append_assoc, append-nil, slice_index, Rules, BeatOf, beats_of, layout, message_of, ends, rest_after}
use Rattle.tl_convert.proofs.Names.{rest_of, heads, far_beats_of, part, due_after, due}
use Rattle.tl_convert.proofs.Extends.{both-two, both-three, both-four}
use Rattle.tl_convert.proofs.Begins.{heads_cut, heads_whole}

-- a property of both branches of a test, each if its list is short enough
under : {X Y Z : Type 0} (P : List X → Y → Z → Type 0) (n : ℕ) (A B : List X) {y y' : Y} {z z' : Z} (t : Bool) → length (cond t A B) ≤ n →
    (length A ≤ n → P A y z) → (length B ≤ n → P B y' z') → P (cond t A B) (cond t y y') (cond t z z')
under P n A B true l f g = f l
under P n A B false l f g = g l

module _ {H : Type 0} (r : Rules H) (w : ℕ) where
  -- the heads of the messages that beats carry whole, if the beats of `seen` have begun the first one
  abbrev pub finished_after : (seen bs : List (BeatOf H w)) → List H
  finished_after seen [] = []
  finished_after seen (b ∷ bs) = cond (ends r w seen b) (b.head ∷ finished_after [] bs) (finished_after (seen ++ b ∷ []) bs)

  pub finished_more : (seen xs : List (BeatOf H w)) (b : BeatOf H w) →
      finished_after seen (xs ++ b ∷ []) ≡ finished_after seen xs ++ cond (ends r w (rest_after r w seen xs) b) (b.head ∷ []) []
  finished_more seen [] b = refl
  finished_more seen (x ∷ xs) b =
      both-three (λ y z u. y ≡ z ++ cond (ends r w u b) (b.head ∷ []) []) (ends r w seen x)
      (ap (λ q. x.head ∷ q) (finished_more [] xs b)) (finished_more (seen ++ x ∷ []) xs b)

  module _ (v : ℕ) where
    -- the far beats of the messages that are whole, and the homes that are left after them
    abbrev pub laid_after : (seen : List (BeatOf H w)) → (homes : List ℕ) → (bs : List (BeatOf H w)) → List (BeatOf H v)
    laid_after seen homes [] = []
    laid_after seen homes (b ∷ bs) = cond (ends r w seen b)
        (layout r (message_of r b.head w (slice_index homes 0) (seen ++ b ∷ [])) v ++ laid_after [] (drop 1 homes) bs)
        (laid_after (seen ++ b ∷ []) homes bs)

    abbrev pub homes_left : (seen : List (BeatOf H w)) → (homes : List ℕ) → (bs : List (BeatOf H w)) → List ℕ
    homes_left seen homes [] = homes
    homes_left seen homes (b ∷ bs) = cond (ends r w seen b) (homes_left [] (drop 1 homes) bs) (homes_left (seen ++ b ∷ []) homes bs)

    pub due_split : (seen : List (BeatOf H w)) (homes : List ℕ) (bs : List (BeatOf H w)) →
        due_after r w v seen homes bs ≡ laid_after seen homes bs ++ part r w v (slice_index (homes_left seen homes bs) 0) (rest_after r w seen bs)
    due_split seen homes [] = refl
    due_split seen homes (b ∷ bs) =
        both-four (λ x y z u. x ≡ y ++ part r w v (slice_index z 0) u) (ends r w seen b)
        (ap (λ q. layout r (message_of r b.head w (slice_index homes 0) (seen ++ b ∷ [])) v ++ q) (due_split [] (drop 1 homes) bs) ∙
        sym (append_assoc (layout r (message_of r b.head w (slice_index homes 0) (seen ++ b ∷ [])) v) (laid_after [] (drop 1 homes) bs) _))
        (due_split (seen ++ b ∷ []) homes bs)

    -- after one more beat
    pub laid_more : (seen : List (BeatOf H w)) (homes : List ℕ) (xs : List (BeatOf H w)) (b : BeatOf H w) →
        laid_after seen homes (xs ++ b ∷ []) ≡ laid_after seen homes xs ++ cond (ends r w (rest_after r w seen xs) b)
        (layout r (message_of r b.head w (slice_index (homes_left seen homes xs) 0) (rest_after r w seen xs ++ b ∷ [])) v) []
    laid_more seen homes [] b = ap (λ q. cond (ends r w seen b) q []) (append-nil _)
    laid_more seen homes (x ∷ xs) b =
        both-four
        (λ y z u k. y ≡ z ++ cond (ends r w u b) (layout r (message_of r b.head w (slice_index k 0) (u ++ b ∷ [])) v) [])
        (ends r w seen x)
        (ap (λ q. layout r (message_of r x.head w (slice_index homes 0) (seen ++ x ∷ [])) v ++ q) (laid_more [] (drop 1 homes) xs b) ∙
        sym (append_assoc (layout r (message_of r x.head w (slice_index homes 0) (seen ++ x ∷ [])) v) (laid_after [] (drop 1 homes) xs) _))
        (laid_more (seen ++ x ∷ []) homes xs b)

    pub homes_more : (seen : List (BeatOf H w)) (homes : List ℕ) (xs : List (BeatOf H w)) (b : BeatOf H w) →
        homes_left seen homes (xs ++ b ∷ []) ≡ cond (ends r w (rest_after r w seen xs) b) (drop 1 (homes_left seen homes xs))
        (homes_left seen homes xs)
    homes_more seen homes [] b = refl
    homes_more seen homes (x ∷ xs) b =
        both-three (λ y u k. y ≡ cond (ends r w u b) (drop 1 k) k) (ends r w seen x)
        (homes_more [] (drop 1 homes) xs b) (homes_more (seen ++ x ∷ []) homes xs b)

    -- more homes change nothing of the messages that are whole
    pub laid_homes : (seen : List (BeatOf H w)) (hs ks : List ℕ) (xs : List (BeatOf H w)) → length (finished_after seen xs) ≤ length hs →
        laid_after seen (hs ++ ks) xs ≡ laid_after seen hs xs
    laid_homes seen hs ks [] n = refl
    laid_homes seen [] ks (b ∷ bs) n =
        under (λ q y z. y ≡ z) 0 (b.head ∷ finished_after [] bs) (finished_after (seen ++ b ∷ []) bs) (ends r w seen b) n (λ l. absurd (omega arith))
        (λ l. laid_homes (seen ++ b ∷ []) [] ks bs l)
    laid_homes seen (h ∷ hs) ks (b ∷ bs) n =
        under (λ q y z. y ≡ z) (length (h ∷ hs)) (b.head ∷ finished_after [] bs) (finished_after (seen ++ b ∷ []) bs) (ends r w seen b) n
        (λ l. ap (λ q. layout r (message_of r b.head w h (seen ++ b ∷ [])) v ++ q) (laid_homes [] hs ks bs (omega arith)))
        (λ l. laid_homes (seen ++ b ∷ []) (h ∷ hs) ks bs l)

    pub left_homes : (seen : List (BeatOf H w)) (hs ks : List ℕ) (xs : List (BeatOf H w)) → length (finished_after seen xs) ≤ length hs →
        homes_left seen (hs ++ ks) xs ≡ homes_left seen hs xs ++ ks
    left_homes seen hs ks [] n = refl
    left_homes seen [] ks (b ∷ bs) n =
        under (λ q y z. y ≡ z ++ ks) 0 (b.head ∷ finished_after [] bs) (finished_after (seen ++ b ∷ []) bs) (ends r w seen b) n
        (λ l. absurd (omega arith)) (λ l. left_homes (seen ++ b ∷ []) [] ks bs l)
    left_homes seen (h ∷ hs) ks (b ∷ bs) n =
        under (λ q y z. y ≡ z ++ ks) (length (h ∷ hs)) (b.head ∷ finished_after [] bs) (finished_after (seen ++ b ∷ []) bs) (ends r w seen b) n
        (λ l. left_homes [] hs ks bs (omega arith)) (λ l. left_homes (seen ++ b ∷ []) (h ∷ hs) ks bs l)

    -- each message that is whole has had its home
    pub left_count : (seen : List (BeatOf H w)) (hs : List ℕ) (xs : List (BeatOf H w)) → length (finished_after seen xs) ≤ length hs →
        length (homes_left seen hs xs) + length (finished_after seen xs) ≡ length hs
    left_count seen hs [] n = omega arith
    left_count seen [] (b ∷ bs) n =
        under (λ q y (z : ℕ). length y + length q ≡ 0) 0 (b.head ∷ finished_after [] bs) (finished_after (seen ++ b ∷ []) bs) {z = 0} {z' = 0}
        (ends r w seen b) n (λ l. absurd (omega arith)) (λ l. left_count (seen ++ b ∷ []) [] bs l)
    left_count seen (h ∷ hs) (b ∷ bs) n =
        under (λ q y (z : ℕ). length y + length q ≡ (length (h ∷ hs))) (length (h ∷ hs)) (b.head ∷ finished_after [] bs)
        (finished_after (seen ++ b ∷ []) bs) {z = 0} {z' = 0} (ends r w seen b) n
        (λ l. let e : length (homes_left [] hs bs) + length (finished_after [] bs) ≡ length hs = left_count [] hs bs (omega arith) in omega arith)
        (λ l. left_count (seen ++ b ∷ []) (h ∷ hs) bs l)

    -- the heads of what is due
    module _ (some : (h : H) → 0 < beats_of r h v) where
      heads_laid_after : (seen : List (BeatOf H w)) (homes : List ℕ) (xs : List (BeatOf H w)) (ys : List (BeatOf H v)) →
          heads r v (laid_after seen homes xs ++ ys) ≡ finished_after seen xs ++ heads r v ys
      heads_laid_after seen homes [] ys = refl
      heads_laid_after seen homes (b ∷ bs) ys =
          both-two (λ x y. heads r v (x ++ ys) ≡ y ++ heads r v ys) (ends r w seen b)
          (ap (λ q. heads r v q) (append_assoc (layout r (message_of r b.head w (slice_index homes 0) (seen ++ b ∷ [])) v)
          (laid_after [] (drop 1 homes) bs) ys) ∙
          heads_whole r v some (message_of r b.head w (slice_index homes 0) (seen ++ b ∷ [])) (laid_after [] (drop 1 homes) bs ++ ys) ∙
          ap (λ q. b.head ∷ q) (heads_laid_after [] (drop 1 homes) bs ys))
          (heads_laid_after (seen ++ b ∷ []) homes bs ys)

      -- the far beats due for a rest begin its message, or are none yet
      abbrev pub far_opened : List (BeatOf H w) → List H
      far_opened [] = []
      far_opened (b ∷ bs) = take (far_beats_of r b.head w v (length (b ∷ bs))) (b.head ∷ [])

      heads_part : (home : ℕ) (rest : List (BeatOf H w)) → heads r v (part r w v home rest) ≡ far_opened rest
      heads_part home [] = refl
      heads_part home (b ∷ bs) = heads_cut r v some (message_of r b.head w home (b ∷ bs)) (far_beats_of r b.head w v (length (b ∷ bs)))

      pub heads_due : (homes : List ℕ) (bs : List (BeatOf H w)) →
          heads r v (due r w v bs homes) ≡ finished_after [] bs ++ far_opened (rest_of r w bs)
      heads_due homes bs =
          ap (λ q. heads r v q) (due_split [] homes bs) ∙
          heads_laid_after [] homes bs (part r w v (slice_index (homes_left [] homes bs) 0) (rest_of r w bs)) ∙
          ap (λ q. finished_after [] bs ++ q) (heads_part (slice_index (homes_left [] homes bs) 0) (rest_of r w bs))
