-- Counting advances over a beat that is accepted, and stops at the first one that is not.
use Rattle.tl_convert.proofs.Names.{◌≡◌, ◌≤◌, ◌<◌, ◌+◌, ◌++◌, ℕ, suc, cond, Option, None, Some, List, [], ◌∷◌, length, take, drop, get_or, sym, ap}
use Rattle.tl_convert.proofs.Names.{subst, ◌∙◌, arith, append_assoc, append-nil, is_none, take_more, drop_of_length-le, IsWidth, Rules, BeatOf}
use Rattle.tl_convert.proofs.Names.{beats_of, rest_of, burst_after, fault_after, IsPlace, due, accepted_of, accepted_after}
use Rattle.std.proofs.Math.Seq.{drop-cons}
use Rattle.tl_msg.specs.declared.fault.BeatFault.{BeatFault}
use Rattle.tl_burst.specs.declared.place.Place.{Place}
use Rattle.tl_convert.specs.Counting.{Gives}
use Rattle.tl_convert.proofs.ConvertStep.{burst-head}
use Rattle.tl_convert.proofs.CountStep.{count-more}

module _ {H : Type 0} (r : Rules H) {w : ℕ} (bs : List (BeatOf H w)) (i : ℕ)
    (accepted : accepted_of r bs ≡ take i bs ++ accepted_after r (take i bs) (drop i bs)) where
  -- all beats are accepted
  pub accepted-all : length bs ≤ i → accepted_of r bs ≡ take i bs
  accepted-all le = accepted ∙ ap (λ q. take i bs ++ accepted_after r (take i bs) q) (drop_of_length-le bs le) ∙ append-nil (take i bs)

  module _ (b : BeatOf H w) (lt : i < length bs) (is : b ≡ get_or bs i b) where
    pub one-more : take (i + 1) bs ≡ take i bs ++ b ∷ []
    one-more = take_more bs i b lt ∙ ap (λ y. take i bs ++ y ∷ []) (sym is)

    others : drop i bs ≡ b ∷ drop (i + 1) bs
    others =
        let n : suc i ≡ i + 1 = omega arith in
        drop-cons bs i b lt ∙ ap (λ y. y ∷ drop (suc i) bs) (sym is) ∙ ap (λ n. b ∷ drop n bs) n

    next-is : accepted_of r bs ≡ take i bs ++ cond (is_none (fault_after r (take i bs) b))
        (b ∷ accepted_after r (take i bs ++ b ∷ []) (drop (i + 1) bs)) []
    next-is = accepted ∙ ap (λ q. take i bs ++ accepted_after r (take i bs) q) others

    -- this one is not
    pub accepted-stop : (f : BeatFault) → fault_after r (take i bs) b ≡ Some f → accepted_of r bs ≡ take i bs
    accepted-stop f e =
        next-is ∙ ap (λ o. take i bs ++ cond (is_none o) (b ∷ accepted_after r (take i bs ++ b ∷ []) (drop (i + 1) bs)) []) e ∙ append-nil (take i bs)

    -- this one is
    pub accepted-next : fault_after r (take i bs) b ≡ None →
        accepted_of r bs ≡ take (i + 1) bs ++ accepted_after r (take (i + 1) bs) (drop (i + 1) bs)
    accepted-next e =
        next-is ∙ ap (λ o. take i bs ++ cond (is_none o) (b ∷ accepted_after r (take i bs ++ b ∷ []) (drop (i + 1) bs)) []) e ∙
        sym (append_assoc (take i bs) (b ∷ []) (accepted_after r (take i bs ++ b ∷ []) (drop (i + 1) bs))) ∙
        ap (λ q. q ++ accepted_after r q (drop (i + 1) bs)) (sym one-more)

-- the far beats that are due grow by what the beat gives
pub due-count : {K H : Type 0} (r : Rules H) (w v : ℕ) → IsWidth w → IsWidth v → (homes : List ℕ) (seen : List (BeatOf H w)) (b : BeatOf H w)
    (burst : Option (H × ℕ)) (place : Place K H) (given : ℕ) → burst ≡ burst_after r seen → place.head ≡ b.head → IsPlace r w burst place →
    place.index ≡ length (rest_of r w seen) → Gives r w v place.head place.index given →
    length (due r w v (seen ++ b ∷ []) homes) ≡ length (due r w v seen homes) + given
due-count {H = H} r w v ww vw homes seen b burst place given open_is same is index gives =
    let P : H → Type 0 = λ h. place.index < beats_of r h w in
    let inside : place.index < beats_of r b.head w = subst P same is.within in
    let Q : H → Type 0 = λ h. Gives r w v h place.index given in
    let R : ℕ → Type 0 = λ n. Gives r w v b.head n given in
    count-more r w v ww vw homes seen b given
    (λ g e. sym (is.held g (length (rest_of r w seen)) (open_is ∙ burst-head r (rest_of r w seen) g e)) ∙ same)
    (omega arith) (subst R index (subst Q same gives))
