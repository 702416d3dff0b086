-- A longer script: its steps stay possible, and its final state only grows.
use Rattle.tl_settle.proofs.Names.{◌≡◌, ◌≤◌, ◌<◌, ℕ, zero, suc, Bool, true, false, cond, Option, None, Some, List, [], ◌∷◌, ◌++◌, length, take, map}
use Rattle.tl_settle.proofs.Names.{refl, sym, ap, subst, ◌∙◌, arith, append_assoc, append-nil, length-map, length-filter, ◌==◌, nat_lt, slice_get}
use Rattle.tl_settle.proofs.Names.{length-append, SideFault, option_map_or, is_none, filter, rules_a, rules_b, rules_c, rules_d, rules_e, HeadA, HeadD, BeatOf, BeatFault}
use Rattle.tl_settle.proofs.Names.{Beat, NoRequest, SizeMismatch, Extends, more, of_prefix, take-grows, count-grows, map_true, there_is}
use Rattle.tl_settle.proofs.Names.{true_less, heads_grow, heads_extend, NoFaults, fault_after, heads, Beats, far_alone, is_release_ack}
use Rattle.tl_settle.proofs.Names.{is_request_of, partner, requests_of, responses_to, homes_after, far_a, far_d, goes_a, goes_d, requests, responses}
use Rattle.tl_settle.proofs.Names.{settled_state, stops_a, stops_d, Reaches, State, by_a, by_d, start}
use mathlib.Core.List.{IsPrefix}
use Rattle.tl_msg.specs.Firsts.{unless}
use Rattle.tl_msg.specs.Rules.{Rules}
use Rattle.tl_msg.specs.declared.fault.SideFault.TheVariants.{SourceBusy}
use Rattle.tl_convert.proofs.Extends.{extends-cons, both-two}
use Rattle.tl_convert.proofs.Prefixes.{due_extends}
use Rattle.tl_convert.specs.Accepted.{accepted_after, accepted_of}
use Rattle.tl_convert.specs.Due.{due}
use Rattle.tl_settle.proofs.Brings.{take-front}
use Rattle.tl_settle.proofs.EndsSettled.{first_homes}
use Rattle.tl_settle.proofs.Grows.{map_grows, far_a_grows, far_d_grows}
use Rattle.tl_settle.proofs.Manager.{whole_asks}
use Rattle.tl_settle.proofs.SameHeads.{same_b, same_c, same_e}
use Rattle.tl_settle.proofs.Settles.{good, one_settled, there_behind, requests_there, within}
use Rattle.tl_settle.proofs.Sides.{nth_stays}
use Rattle.tl_settle.specs.Channels.{ArePrefixes, OnlyLengthens}
use Rattle.tl_settle.specs.Settling.{stops}

pub to_prefix : {X : Type 0} {xs ys : List X} → Extends xs ys → IsPrefix xs ys
to_prefix (more xs rest) = (rest, refl)

take_within : {X : Type 0} (i : ℕ) (xs ys : List X) → i ≤ length xs → take i (xs ++ ys) ≡ take i xs
take_within zero xs ys h = refl
take_within (suc i) [] ys h = absurd (omega arith)
take_within (suc i) (x ∷ xs) ys h = ap (λ q. x ∷ q) (take_within i xs ys (omega arith))

get_within : {X : Type 0} (i : ℕ) (x : X) (xs ys : List X) → slice_get xs i ≡ Some x → slice_get (xs ++ ys) i ≡ Some x
get_within i x [] ys e = cc
get_within zero x (y ∷ xs) ys e = e
get_within (suc i) x (y ∷ xs) ys e = get_within i x xs ys e

-- ---- a channel that nothing couples to another one

module _ {H : Type 0} (r : Rules H) {w : ℕ} where
  accepted_grows : (seen xs ys : List (BeatOf H w)) → Extends (accepted_after r seen xs) (accepted_after r seen (xs ++ ys))
  accepted_grows seen [] ys = more [] (accepted_after r seen ys)
  accepted_grows seen (b ∷ xs) ys =
      both-two Extends (is_none (fault_after r seen b)) (extends-cons b (accepted_grows (seen ++ b ∷ []) xs ys)) (more [] [])

  -- no accepted beat has a fault after those before it
  accepted_fine : (seen bs : List (BeatOf H w)) (k : ℕ) (b : BeatOf H w) → slice_get (accepted_after r seen bs) k ≡ Some b →
      fault_after r (seen ++ take k (accepted_after r seen bs)) b ≡ None
  accepted_fine seen [] k b e = cc
  accepted_fine seen (x ∷ bs) k b e =
      by_fault seen x (accepted_after r (seen ++ x ∷ []) bs) b (fault_after r seen x) refl (λ k e. accepted_fine (seen ++ x ∷ []) bs k b e) k e
    where
      by_fault : (seen : List (BeatOf H w)) (x : BeatOf H w) (rest : List (BeatOf H w)) (b : BeatOf H w) (o : Option BeatFault) →
          fault_after r seen x ≡ o →
          ((k : ℕ) → slice_get rest k ≡ Some b → fault_after r ((seen ++ x ∷ []) ++ take k rest) b ≡ None) →
          (k : ℕ) → slice_get (cond (is_none o) (x ∷ rest) []) k ≡ Some b →
          fault_after r (seen ++ take k (cond (is_none o) (x ∷ rest) [])) b ≡ None
      by_fault seen x rest b (Some fault) q others k e = cc
      by_fault seen x rest b None q others zero e =
          let same : x ≡ b = cc in
          ap (λ bs. fault_after r bs b) (append-nil seen) ∙ ap (λ y. fault_after r seen y) (sym same) ∙ q
      by_fault seen x rest b None q others (suc k) e =
          subst (λ bs. fault_after r bs b ≡ None) (append_assoc seen (x ∷ []) (take k rest)) (others k e)

  module _ (same : (x y : H) → r.same x y ≡ true → x ≡ y) {v : ℕ} (near : 0 < w) (far : 0 < v) where
    far_alone_grows : (xs ys : List (BeatOf H w)) → Extends (far_alone r v xs) (far_alone r v (xs ++ ys))
    far_alone_grows xs ys = by_more (accepted_grows [] xs ys) refl
      where
        all : List (BeatOf H w)
        all = accepted_of r (xs ++ ys)

        homes : ℕ → List ℕ
        homes k = map (λ h. r.lane_address h 0) (heads r w (take k all))

        grown : (n : ℕ) → n ≤ length all → Extends (due r w v (take n all) (homes n)) (due r w v (take (length all) all) (homes (length all)))
        grown n l =
            due_extends r same w v near far all homes n (length all) l (record { none = λ k b m e. accepted_fine [] (xs ++ ys) k b e })
            (λ k. map_grows (λ h. r.lane_address h 0) (heads_extend r w (take-grows k (suc k) all (omega arith))))
            (λ k. let n = length-map (heads r w (take k all)) (λ h. r.lane_address h 0) in omega arith)

        made : List (BeatOf H w) → List (BeatOf H v)
        made bs = due r w v bs (map (λ h. r.lane_address h 0) (heads r w bs))

        by_more : {zs : List (BeatOf H w)} → Extends (accepted_of r xs) zs → zs ≡ all → Extends (made (accepted_of r xs)) (made all)
        by_more (more us rest) e =
            let first : take (length us) all ≡ us = take-front us rest all e in
            let whole : take (length all) all ≡ all = take-front all [] all (append-nil all) in
            let n : length (us ++ rest) ≡ length all = ap length e in
            let few : length us ≤ length all = shorter us rest n in
            subst (λ q. Extends q (made all)) (ap made first) (subst (λ q. Extends (made (take (length us) all)) q) (ap made whole)
            (grown (length us) few))
          where
            shorter : (us rest : List (BeatOf H w)) → length (us ++ rest) ≡ length all → length us ≤ length all
            shorter us rest n = let l = length-append us rest in omega arith

-- ---- A and D

-- a response that waits for no request is held back, whatever the size of that would be
size_counts : (o : Option BeatFault) (l r n s t : Bool) → (n ≡ true → s ≡ t) →
    option_map_or (λ x. Some (Beat x)) o (cond l (cond r None (cond n (cond s None (Some SizeMismatch)) (Some NoRequest))) None) ≡
    option_map_or (λ x. Some (Beat x)) o (cond l (cond r None (cond n (cond t None (Some SizeMismatch)) (Some NoRequest))) None)
size_counts (Some x) l r n s t h = refl
size_counts None false r n s t h = refl
size_counts None true true n s t h = refl
size_counts None true false false s t h = refl
size_counts None true false true s t h = ap (λ q. cond q None (Some SizeMismatch)) (h refl)

module _ {C M : ℕ} (near : 0 < C) (far : 0 < M) (a others_a : List (BeatOf HeadA C)) (d others_d : List (BeatOf HeadD M)) where
  abbrev pub longer_a : List (BeatOf HeadA C)
  longer_a = a ++ others_a

  abbrev pub longer_d : List (BeatOf HeadD M)
  longer_d = d ++ others_d

  more_requests : Extends (heads rules_a C a) (heads rules_a C longer_a)
  more_requests = heads_grow rules_a C 0 a others_a

  -- at a state that steps lead to, what is due is the same in the longer script, and so is what stops the next beat
  module _ (i j : ℕ) (r : Reaches (goes_a a d) (goes_d a d) i j) where
    few : (s : ℕ) → responses_to s (responses a d j) ≤ requests_of s (heads rules_a C a)
    few s =
        let x = (good near far a d r).fewer s in
        let y = there_behind near far a d i s (good near far a d r).a_fine in
        let z = count-grows (is_request_of s) (whole_asks near far a d i) in
        omega arith

    same_a : take i longer_a ≡ take i a
    same_a = take_within i a others_a (within near far a d r).0

    same_d : take j longer_d ≡ take j d
    same_d = take_within j d others_d (within near far a d r).1

    same_far_a : far_a longer_a longer_d i ≡ far_a a d i
    same_far_a = ap (λ bs. due rules_a C M bs (map (λ h. h.address) (heads rules_a C bs))) same_a

    same_far_d : far_d longer_a longer_d j ≡ far_d a d j
    same_far_d =
        ap (λ bs. due rules_d M C bs (homes_after (heads rules_a C longer_a) [] (heads rules_d M bs))) same_d ∙
        ap (λ hs. due rules_d M C (take j d) hs) (first_homes more_requests [] (responses a d j) few)

    same_stops_a : (b : BeatOf HeadA C) → stops_a longer_a longer_d i j b ≡ stops_a a d i j b
    same_stops_a b =
        ap (λ bs. stops rules_a bs (λ h. unless (requests_of h.source (heads rules_a C bs) ==
        responses_to h.source (heads rules_d C (far_d longer_a longer_d j))) SourceBusy) b) same_a ∙
        ap (λ bs. stops rules_a (take i a) (λ h. unless (requests_of h.source (requests a d i) ==
        responses_to h.source (heads rules_d C bs)) SourceBusy) b) same_far_d

    -- the reason why a response that begins after these beats is held back, if these requests are the manager's side's,
    -- given all requests of a script
    abbrev held : List HeadA → List (BeatOf HeadD M) → List (BeatOf HeadA M) → BeatOf HeadD M → Option SideFault
    held qs bs asks b = stops rules_d bs (λ h.
        cond (is_release_ack h) None
        (cond (nat_lt (responses_to h.source (heads rules_d M bs)) (requests_of h.source (heads rules_a M asks)))
        (unless (option_map_or (λ q. q.size == h.size) (partner qs (heads rules_d M bs) h.source) false) SizeMismatch)
        (Some NoRequest))) b

    same_partner : (s : ℕ) → nat_lt (responses_to s (responses a d j)) (requests_of s (requests_there a d i)) ≡ true →
        partner (heads rules_a C longer_a) (responses a d j) s ≡ partner (heads rules_a C a) (responses a d j) s
    same_partner s less =
        let x = true_less _ _ less in
        let y = there_behind near far a d i s (good near far a d r).a_fine in
        let z = count-grows (is_request_of s) (whole_asks near far a d i) in
        let l = length-filter (is_request_of s) (heads rules_a C a) in
        let q = there_is (filter (is_request_of s) (heads rules_a C a)) (responses_to s (responses a d j)) (omega arith) in
        nth_stays (is_request_of s) (responses_to s (responses a d j)) q.0 more_requests q.1 ∙ sym q.1

    same_stops_d : (b : BeatOf HeadD M) → stops_d longer_a longer_d i j b ≡ stops_d a d i j b
    same_stops_d b =
        ap (λ bs. held (heads rules_a C longer_a) bs (far_a longer_a longer_d i) b) same_d ∙
        ap (λ bs. held (heads rules_a C longer_a) (take j d) bs b) same_far_a ∙
        size_counts (fault_after rules_d (take j d) b) _ (is_release_ack b.head) _ _ _
        (λ less. ap (λ (o : Option HeadA). option_map_or (λ q. q.size == b.head.size) o false) (same_partner b.head.source less))

    more_a : goes_a a d i j ≡ true → goes_a longer_a longer_d i j ≡ true
    more_a g =
        let found = map_true (λ b. is_none (stops_a a d i j b)) (slice_get a i) g in
        ap (λ o. option_map_or (λ b. is_none (stops_a longer_a longer_d i j b)) o false) (get_within i found.0 a others_a found.1) ∙
        ap (λ o. is_none o) (same_stops_a found.0) ∙ found.2

    more_d : goes_d a d i j ≡ true → goes_d longer_a longer_d i j ≡ true
    more_d g =
        let found = map_true (λ b. is_none (stops_d a d i j b)) (slice_get d j) g in
        ap (λ o. option_map_or (λ b. is_none (stops_d longer_a longer_d i j b)) o false) (get_within j found.0 d others_d found.1) ∙
        ap (λ o. is_none o) (same_stops_d found.0) ∙ found.2

  -- so steps lead there in the longer script too
  still_reached : {i j : ℕ} → Reaches (goes_a a d) (goes_d a d) i j → Reaches (goes_a longer_a longer_d) (goes_d longer_a longer_d) i j
  still_reached start = start
  still_reached (by_a i j r g) = by_a i j (still_reached r) (more_a i j r g)
  still_reached (by_d i j r g) = by_d i j (still_reached r) (more_d i j r g)

  abbrev pub at : State
  at = settled_state a d

  abbrev pub later : State
  later = settled_state longer_a longer_d

  reached : Reaches (goes_a a d) (goes_d a d) at.a at.d
  reached = (one_settled near far a d).settled.reached

  on : (at.a ≤ later.a) × (at.d ≤ later.d)
  on = (one_settled near far longer_a longer_d).last at.a at.d (still_reached reached)

  fine_a : NoFaults rules_a longer_a later.a
  fine_a = (good near far longer_a longer_d (one_settled near far longer_a longer_d).settled.reached).a_fine

  fine_d : NoFaults rules_d longer_d later.d
  fine_d = (good near far longer_a longer_d (one_settled near far longer_a longer_d).settled.reached).d_fine

  pub accepted_a : Extends (take at.a a) (take later.a longer_a)
  accepted_a = subst (λ bs. Extends bs (take later.a longer_a)) (same_a at.a at.d reached) (take-grows at.a later.a longer_a on.0)

  pub accepted_d : Extends (take at.d d) (take later.d longer_d)
  accepted_d = subst (λ bs. Extends bs (take later.d longer_d)) (same_d at.a at.d reached) (take-grows at.d later.d longer_d on.1)

  pub longer_far_a : Extends (far_a a d at.a) (far_a longer_a longer_d later.a)
  longer_far_a =
      subst (λ bs. Extends bs (far_a longer_a longer_d later.a)) (same_far_a at.a at.d reached)
      (far_a_grows near far longer_a longer_d at.a later.a on.0 fine_a)

  pub longer_far_d : Extends (far_d a d at.d) (far_d longer_a longer_d later.d)
  longer_far_d =
      subst (λ bs. Extends bs (far_d longer_a longer_d later.d)) (same_far_d at.a at.d reached)
      (far_d_grows near far longer_a longer_d at.d later.d on.1 fine_d)

-- ---- the five channels

a_and_d : {C M : ℕ} → 0 < C → 0 < M → {a longer_a : List (BeatOf HeadA C)} {d longer_d : List (BeatOf HeadD M)} →
    Extends a longer_a → Extends d longer_d →
    Extends (take (settled_state a d).a a) (take (settled_state longer_a longer_d).a longer_a) ×
    Extends (take (settled_state a d).d d) (take (settled_state longer_a longer_d).d longer_d) ×
    Extends (far_a a d (settled_state a d).a) (far_a longer_a longer_d (settled_state longer_a longer_d).a) ×
    Extends (far_d a d (settled_state a d).d) (far_d longer_a longer_d (settled_state longer_a longer_d).d)
a_and_d near far (more a others_a) (more d others_d) = (
  accepted_a near far a others_a d others_d,
  accepted_d near far a others_a d others_d,
  longer_far_a near far a others_a d others_d,
  longer_far_d near far a others_a d others_d,
)

alone : {H : Type 0} (r : Rules H) {w v : ℕ} → ((x y : H) → r.same x y ≡ true → x ≡ y) → 0 < w → 0 < v → {bs longer : List (BeatOf H w)} →
    Extends bs longer → Extends (accepted_of r bs) (accepted_of r longer) × Extends (far_alone r v bs) (far_alone r v longer)
alone r same near far (more bs others) = (accepted_grows r [] bs others, far_alone_grows r same near far bs others)

pub only_lengthens : {C M : ℕ} → 0 < C → 0 < M → (script longer : Beats C M) → ArePrefixes script longer → OnlyLengthens script longer
only_lengthens near far script longer on =
    let both = a_and_d near far (of_prefix _ _ on.a) (of_prefix _ _ on.d) in
    let b = alone rules_b {v = _} same_b far near (of_prefix _ _ on.b) in
    let c = alone rules_c {v = _} same_c near far (of_prefix _ _ on.c) in
    let e = alone rules_e {v = _} same_e near far (of_prefix _ _ on.e) in
    record {
      accepted = record { a = to_prefix both.0; b = to_prefix b.0; c = to_prefix c.0; d = to_prefix both.1; e = to_prefix e.0 };
      far = record { a = to_prefix both.2; b = to_prefix b.1; c = to_prefix c.1; d = to_prefix both.3; e = to_prefix e.1 };
    }
