-- A side takes several beats within a round.
use Rattle.std.proofs.Common.{◌≡◌, ◌++◌, ℕ, List, [], ◌∷◌, map, sym, ap, subst, ◌∙◌, append-nil, append_assoc}
use mathlib.Core.List.{IsPrefix}
use Rattle.tl_msg.specs.declared.beat.BeatOf.{BeatOf}
use Rattle.tl_msg.specs.declared.head.HeadA.{HeadA}
use Rattle.tl_msg.specs.declared.head.HeadD.{HeadD}
use Rattle.tl_settle.specs.Histories.{Event, Ask, Answer, asked, answered}
use Rattle.tl_settle.specs.Rounds.{ClientMoves, ManagerMoves, client_takes, manager_takes}
use Rattle.tl_settle.specs.Settling.{far_a, far_d}
use Rattle.tl_settle.proofs.Marks.{asked_ask, answered_answer}

-- the first beat of a list that is due, and the others after it
front-one : {A : Type 0} (xs ys : List A) (y : A) (all : List A) → IsPrefix (xs ++ y ∷ ys) all → IsPrefix (xs ++ y ∷ []) all
front-one xs ys y all (rest, e) = (ys ++ rest, append_assoc xs (y ∷ []) (ys ++ rest) ∙ sym (append_assoc xs (y ∷ ys) rest) ∙ e)

-- the other beats, once the first one was taken
front-others : {A : Type 0} (xs ys zs : List A) (y : A) (all : List A) → zs ≡ xs ++ y ∷ [] → IsPrefix (xs ++ y ∷ ys) all → IsPrefix (zs ++ ys) all
front-others xs ys zs y all g (rest, e) = (rest, ap (λ q. (q ++ ys) ++ rest) g ∙ ap (λ q. q ++ rest) (append_assoc xs (y ∷ []) ys) ∙ e)

-- a possible move of a side: the number of beats that it has accepted, and its history
module _ {w : ℕ} (Moves : ℕ → List (Event w) → Type 0) where
  -- it takes several beats, one after the other, which are all due
  takes-all : {B : Type 0} (event : B → Event w) (seen : List (Event w) → List B) (due : List B) →
      ((fs : List (Event w)) (b : B) → seen (fs ++ event b ∷ []) ≡ seen fs ++ b ∷ []) →
      ((y : ℕ) (fs : List (Event w)) (b : B) → Moves y fs → IsPrefix (seen fs ++ b ∷ []) due → Moves y (fs ++ event b ∷ [])) →
      (y : ℕ) (fs : List (Event w)) (bs : List B) → Moves y fs → IsPrefix (seen fs ++ bs) due → Moves y (fs ++ map event bs)
  takes-all event seen due shows takes y fs [] moves on = subst (λ gs. Moves y gs) (sym (append-nil fs)) moves
  takes-all event seen due shows takes y fs (b ∷ bs) moves on =
      subst (λ gs. Moves y gs) (append_assoc fs (event b ∷ []) (map event bs))
      (takes-all event seen due shows takes y (fs ++ event b ∷ []) bs (takes y fs b moves (front-one (seen fs) bs b due on))
      (front-others (seen fs) bs (seen (fs ++ event b ∷ [])) b due (shows fs b) on))

-- the beats that a side took are the last of its history
pub seen-all : {w : ℕ} {B : Type 0} (event : B → Event w) (seen : List (Event w) → List B) →
    ((fs : List (Event w)) (b : B) → seen (fs ++ event b ∷ []) ≡ seen fs ++ b ∷ []) → (fs : List (Event w)) (bs : List B) →
    seen (fs ++ map event bs) ≡ seen fs ++ bs
seen-all event seen shows fs [] = ap seen (append-nil fs) ∙ sym (append-nil (seen fs))
seen-all event seen shows fs (b ∷ bs) =
    ap seen (sym (append_assoc fs (event b ∷ []) (map event bs))) ∙ seen-all event seen shows (fs ++ event b ∷ []) bs ∙
    ap (λ q. q ++ bs) (shows fs b) ∙ append_assoc (seen fs) (b ∷ []) bs

module _ {C M : ℕ} (a : List (BeatOf HeadA C)) (d : List (BeatOf HeadD M)) where
  -- so do the client's side and the manager's
  pub client-takes-all : (j x : ℕ) (es : List (Event C)) (y : ℕ) (fs : List (Event C)) (bs : List (BeatOf HeadD C)) → ClientMoves a d j x es y fs →
      IsPrefix (answered fs ++ bs) (far_d a d j) → ClientMoves a d j x es y (fs ++ map Answer bs)
  client-takes-all j x es = takes-all (ClientMoves a d j x es) Answer answered (far_d a d j) answered_answer
      (λ y fs b moves on. client_takes y fs b moves on)

  pub manager-takes-all : (i x : ℕ) (es : List (Event M)) (y : ℕ) (fs : List (Event M)) (bs : List (BeatOf HeadA M)) → ManagerMoves a d i x es y fs →
      IsPrefix (asked fs ++ bs) (far_a a d i) → ManagerMoves a d i x es y (fs ++ map Ask bs)
  manager-takes-all i x es = takes-all (ManagerMoves a d i x es) Ask asked (far_a a d i) asked_ask (λ y fs b moves on. manager_takes y fs b moves on)
