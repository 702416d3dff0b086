-- The far beats that are due grow as more beats of a script are accepted.
use Rattle.tl_settle.proofs.Names.{◌≡◌, ◌≤◌, ◌<◌, ℕ, suc, List, [], ◌∷◌, ◌++◌, length, map, refl, sym, ap, ◌∙◌, arith, append_assoc, append-nil}
use Rattle.tl_settle.proofs.Names.{length-map, map-append, rules_a, rules_d, HeadA, HeadD, BeatOf, Extends, more, take-grows, heads_extend, NoFaults}
use Rattle.tl_settle.proofs.Names.{home_of, homes_after, far_a, far_d, requests, responses, heads}
use Rattle.tl_settle.proofs.SameHeads.{same_a, same_d}
use Rattle.tl_convert.proofs.Prefixes.{due_extends}

pub map_grows : {X Y : Type 0} (f : X → Y) {xs ys : List X} → Extends xs ys → Extends (map f xs) (map f ys)
map_grows f (more xs rest) = rw (map-append f xs rest) (more (map f xs) (map f rest))

-- the homes of more messages begin with those of the first
pub homes_more : (qs : List HeadA) (before hs ks : List HeadD) →
    homes_after qs before (hs ++ ks) ≡ homes_after qs before hs ++ homes_after qs (before ++ hs) ks
homes_more qs before [] ks = ap (λ b. homes_after qs b ks) (sym (append-nil before))
homes_more qs before (h ∷ hs) ks =
    ap (λ q. home_of qs before h ∷ q) (homes_more qs (before ++ h ∷ []) hs ks ∙
    ap (λ b. homes_after qs (before ++ h ∷ []) hs ++ homes_after qs b ks) (append_assoc before (h ∷ []) hs))

homes_grow : (qs : List HeadA) {hs ks : List HeadD} → Extends hs ks → Extends (homes_after qs [] hs) (homes_after qs [] ks)
homes_grow qs (more hs rest) = rw (homes_more qs [] hs rest) (more (homes_after qs [] hs) (homes_after qs hs rest))

homes_count : (qs : List HeadA) (before hs : List HeadD) → length (homes_after qs before hs) ≡ length hs
homes_count qs before [] = refl
homes_count qs before (h ∷ hs) = ap suc (homes_count qs (before ++ h ∷ []) hs)

module _ {C M : ℕ} (near : 0 < C) (far : 0 < M) (a : List (BeatOf HeadA C)) (d : List (BeatOf HeadD M)) where
  pub far_a_grows : (i x : ℕ) → i ≤ x → NoFaults rules_a a x → Extends (far_a a d i) (far_a a d x)
  far_a_grows i x l f =
      due_extends rules_a same_a C M near far a (λ k. map (λ h. h.address) (requests a d k)) i x l f
      (λ k. map_grows (λ h. h.address) (heads_extend rules_a C (take-grows k (suc k) a (omega arith))))
      (λ k. let n : length (map (λ h. h.address) (requests a d k)) ≡ length (requests a d k) = length-map (requests a d k) (λ h. h.address) in
      omega arith)

  pub far_d_grows : (j y : ℕ) → j ≤ y → NoFaults rules_d d y → Extends (far_d a d j) (far_d a d y)
  far_d_grows j y l f =
      due_extends rules_d same_d M C far near d (λ k. homes_after (heads rules_a C a) [] (responses a d k)) j y l f
      (λ k. homes_grow (heads rules_a C a) (heads_extend rules_d M (take-grows k (suc k) d (omega arith))))
      (λ k.
      let n : length (homes_after (heads rules_a C a) [] (responses a d k)) ≡ length (responses a d k) =
      homes_count (heads rules_a C a) [] (responses a d k) in
      omega arith)
