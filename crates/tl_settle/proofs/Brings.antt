-- The whole messages in a channel's accepted beats, and the reason why its list stops.
use Rattle.tl_settle.proofs.Names.{◌≡◌, ◌≢◌, ◌≤◌, ◌<◌, ◌+◌, ◌^◌, ◌↔◌, ℕ, suc, Bool, true, false, cond, Option, None, Some, List, [], ◌∷◌, ◌++◌}
use Rattle.tl_settle.proofs.Names.{length, map, take, drop, refl, sym, ap, subst, ◌∙◌, arith, length-append, take-append-drop, ◌==◌, slice_get}
use Rattle.tl_settle.proofs.Names.{option_map_or, IsBeat, BeatOf, BeatFault, SideFault, Beat, SourceBusy, NoRequest, SizeMismatch, Message, beats_of}
use Rattle.tl_settle.proofs.Names.{Handed, nothing, begun, whole, IsHanded, IsHandedWith, IsAdmitted, fault_after, homes_with, heads, left}
use Rattle.tl_settle.proofs.Names.{rest_heads, true_equal, false_apart, none_past, take-next, verdict_of, far_alone, verdict_alone}
use Rattle.tl_msg.specs.Rules.{Rules}
use Rattle.tl_msg.specs.declared.verdict.Verdict.TheVariants.{Done, Cut}
use Rattle.tl_burst.proofs.BegunMessages.{left-zero, heads-handed}
use Rattle.tl_burst.proofs.RestOf.{RestIs}
use Rattle.tl_convert.specs.Due.{due}
use Rattle.tl_convert.specs.Accepted.{accepted_of, AcceptedIsLongest, IsLongest}
use Rattle.tl_convert.specs.Laws.{DueIsOne, DueIsHanded, gathered}
use Rattle.tl_settle.specs.InMessages.{NextOpens, IsVerdict, all_done, all_cut, not_admitted, another_size, waits, Brings, BringsAlone}

-- the first items of a list
pub take-front : {A : Type 0} (xs ys zs : List A) → xs ++ ys ≡ zs → take (length xs) zs ≡ xs
take-front [] ys zs e = refl
take-front (x ∷ xs) ys [] e = cc
take-front (x ∷ xs) ys (z ∷ zs) e =
    let first : z ≡ x = cc in
    let others : xs ++ ys ≡ zs = cc in
    ap (λ q. q ∷ take (length xs) zs) first ∙ ap (λ q. x ∷ q) (take-front xs ys zs others)

no_longer : {A : Type 0} (xs : List A) (x : A) (ys : List A) → (xs ++ x ∷ []) ++ ys ≡ xs → ⊥
no_longer xs x ys e =
    let n : length ((xs ++ x ∷ []) ++ ys) ≡ length (xs ++ x ∷ []) + length ys =
    length-append (xs ++ x ∷ []) ys in
    let m : length (xs ++ x ∷ []) ≡ length xs + 1 = length-append xs (x ∷ []) in
    let k : length ((xs ++ x ∷ []) ++ ys) ≡ length xs = ap length e in
    absurd (omega arith)

-- gathering corrupt changes no head
gathered_heads : {H : Type 0} (r : Rules H) (v : ℕ) (ms : List (Message H)) →
    map (λ m. m.head) (map (gathered r v) ms) ≡ map (λ m. m.head) ms
gathered_heads r v [] = refl
gathered_heads r v (m ∷ ms) = ap (λ q. m.head ∷ q) (gathered_heads r v ms)

-- the laws of the layers below for one channel, as `one_channel` ensures them
abbrev pub Known : {H : Type 0} (r : Rules H) (w v : ℕ) → Type 0
Known {H} r w v = record {
  exact : (bs : List (BeatOf H w)) (b : BeatOf H w) → IsHanded r bs → IsBeat r b →
      (fault_after r bs b ≡ None) ↔ IsAdmitted r bs b;
  kept : (bs : List (BeatOf H w)) (homes : List ℕ) (b : BeatOf H w) (home : ℕ) →
      IsHandedWith r bs homes → IsBeat r b → fault_after r bs b ≡ None →
      r.lane_address b.head home < 2 ^ 64 →
      IsHandedWith r (bs ++ b ∷ []) (homes_with r bs homes b home);
  one : DueIsOne r w v;
  far_side : DueIsHanded r w v;
  longest : AcceptedIsLongest r w;
}

module _ {H : Type 0} (r : Rules H) {w : ℕ} (some : (h : H) → 0 < beats_of r h w) where
  -- if a head determines the home, the homes are those that the heads determine
  own_begun : ((h : H) (x : ℕ) → r.lane_address h x ≡ r.lane_address h 0) →
      {bs : List (BeatOf H w)} {homes : List ℕ} {ms : List (Message H)} {rest : List (BeatOf H w)} →
      Handed r w bs homes ms rest →
      homes ≡ map (λ h. r.lane_address h 0) (map (λ m. m.head) ms ++ rest_heads r w rest)
  own_begun fixed nothing = refl
  own_begun fixed (begun m [] more l s n1 n2) = absurd (n1 refl)
  own_begun fixed (begun m (b ∷ bs) more l s n1 n2) =
      ap (λ x. x ∷ [])
      (sym l.home ∙ fixed m.head m.home ∙ ap (λ h. r.lane_address h 0) (sym (s.each 0 b refl).head))
  own_begun fixed (whole m bs others homes ms rest l s h) =
      ap (λ x. x ∷ homes) (sym l.home ∙ fixed m.head m.home) ∙
      ap (λ q. r.lane_address m.head 0 ∷ q) (own_begun fixed h)

  pub own_homes : ((h : H) (x : ℕ) → r.lane_address h x ≡ r.lane_address h 0) →
      {bs : List (BeatOf H w)} {homes : List ℕ} {ms : List (Message H)} {rest : List (BeatOf H w)} →
      Handed r w bs homes ms rest → homes ≡ map (λ h. r.lane_address h 0) (heads r w bs)
  own_homes fixed h = own_begun fixed h ∙
      ap (λ q. map (λ h. r.lane_address h 0) q) (sym (heads-handed r w some h))

  module _ {v : ℕ} (some_there : (h : H) → 0 < beats_of r h v)
      (known : Known r w v)
      (near : List (BeatOf H w))
      (beats : (k : ℕ) (b : BeatOf H w) → slice_get near k ≡ Some b → IsBeat r b) where
    module _ (n : ℕ) (within : n ≤ length near) {homes : List ℕ} {ms : List (Message H)}
        {rest : List (BeatOf H w)} (handed : Handed r w (take n near) homes ms rest)
        (held : H → Option SideFault)
        (never : (h : H) (fault : BeatFault) → held h ≡ Some (Beat fault) → ⊥) where
      is_handed : IsHanded r (take n near)
      is_handed = record { homes = homes; messages = ms; rest = rest; handed = handed }

      -- the reason why the next beat is refused
      abbrev pub stops_next : BeatOf H w → Option SideFault
      stops_next b =
          option_map_or (λ fault. Some (Beat fault)) (fault_after r (take n near) b)
          (cond (left r w (take n near) == 0) (held b.head) None)

      nothing_left : left r w (take n near) ≡ 0 → rest ≡ []
      nothing_left e = RestIs r w handed ∙ (left-zero r w handed).0 e

      something_left : rest ≡ [] → left r w (take n near) ≡ 0
      something_left e = (left-zero r w handed).1 (sym (RestIs r w handed) ∙ e)

      at_end : (far : ℕ) → slice_get near n ≡ None → (t : Bool) →
          (left r w (take n near) == 0) ≡ t →
          IsVerdict r near n rest far held (cond t (Done n far) (Cut n far))
      at_end far e true l =
          let past : length near ≤ n = none_past near n e in
          all_done (omega arith) (nothing_left (true_equal (left r w (take n near)) 0 l))
      at_end far e false l =
          let past : length near ≤ n = none_past near n e in
          all_cut (omega arith) (λ q. false_apart (left r w (take n near)) 0 l (something_left q))

      -- a beat that has no fault and that is held back opens a message
      opens_next : (b : BeatOf H w) → slice_get near n ≡ Some b →
          fault_after r (take n near) b ≡ None → (left r w (take n near) == 0) ≡ true →
          NextOpens r near n rest b
      opens_next b e fine l = record {
        next = e;
        admitted = (known.exact (take n near) b is_handed (beats n b e)).0 fine;
        between = nothing_left (true_equal (left r w (take n near)) 0 l);
      }

      at_beat : (far : ℕ) (b : BeatOf H w) → slice_get near n ≡ Some b → (o : Option BeatFault) →
          fault_after r (take n near) b ≡ o →
          (l : Bool) → (left r w (take n near) == 0) ≡ l → (x : Option SideFault) →
          held b.head ≡ x →
          option_map_or (λ fault. Some (Beat fault)) o (cond l x None) ≢ None →
          IsVerdict r near n rest far held
          (verdict_of n far (left r w (take n near))
          (option_map_or (λ fault. Some (Beat fault)) o (cond l x None)))
      at_beat far b e (Some fault) q l m x h stop =
          not_admitted b fault e
          (λ a. let none : None ≡ Some fault =
          sym ((known.exact (take n near) b is_handed (beats n b e)).1 a) ∙ q in cc) q
      at_beat far b e None q false m x h stop = absurd (stop refl)
      at_beat far b e None q true m None h stop = absurd (stop refl)
      at_beat far b e None q true m (Some (Beat fault)) h stop = absurd (never b.head fault h)
      at_beat far b e None q true m (Some SourceBusy) h stop =
          waits b SourceBusy (opens_next b e q m) h (λ f. cc)
      at_beat far b e None q true m (Some NoRequest) h stop =
          waits b NoRequest (opens_next b e q m) h (λ f. cc)
      at_beat far b e None q true m (Some SizeMismatch) h stop =
          another_size b (opens_next b e q m) h

      at_next : (far : ℕ) (stops : BeatOf H w → Option SideFault) →
          ((b : BeatOf H w) → stops b ≡ stops_next b) →
          ((b : BeatOf H w) → slice_get near n ≡ Some b → stops b ≢ None) →
          (o : Option (BeatOf H w)) → slice_get near n ≡ o →
          IsVerdict r near n rest far held
          (verdict_of n far (left r w (take n near)) (option_map_or stops o None))
      at_next far stops same stop None e = at_end far e (left r w (take n near) == 0) refl
      at_next far stops same stop (Some b) e =
          subst (λ q. IsVerdict r near n rest far held
          (verdict_of n far (left r w (take n near)) q)) (sym (same b))
          (at_beat far b e (fault_after r (take n near) b) refl (left r w (take n near) == 0) refl
          (held b.head) refl
          (λ none. stop b e (same b ∙ none)))

      pub brings : (stops : BeatOf H w → Option SideFault) →
          ((b : BeatOf H w) → stops b ≡ stops_next b) →
          ((b : BeatOf H w) → slice_get near n ≡ Some b → stops b ≢ None) →
          Brings r near (due r w v (take n near) homes) n homes held
          (verdict_of n (length (due r w v (take n near) homes)) (left r w (take n near))
          (option_map_or stops (slice_get near n) None))
      brings stops same stop = record {
        messages = ms;
        rest = rest;
        within = within;
        handed = handed;
        begun = heads-handed r w some handed;
        arrives = known.one.exists (take n near) homes ms rest handed;
        far_handed = known.far_side (take n near) homes ms rest handed;
        begun_there = let there = known.far_side (take n near) homes ms rest handed in
            heads-handed r v some_there there.handed ∙
            ap (λ q. q ++ rest_heads r v there.far_rest) (gathered_heads r v ms);
        verdict_is =
            at_next (length (due r w v (take n near) homes)) stops same stop
            (slice_get near n) refl;
      }

    -- a channel that nothing couples to another one
    module _ (fixed : (h : H) (x : ℕ) → r.lane_address h x ≡ r.lane_address h 0) where
      longest : IsLongest r near
      longest = known.longest near beats

      accepted_is : take (length (accepted_of r near)) near ≡ accepted_of r near
      accepted_is = take-front (accepted_of r near) longest.first.0 near longest.first.1

      within_near : length (accepted_of r near) ≤ length near
      within_near =
          let xs : List (BeatOf H w) = accepted_of r near in
          let ys : List (BeatOf H w) = longest.first.0 in
          let n : length (xs ++ ys) ≡ length xs + length ys = length-append xs ys in
          let m : length (xs ++ ys) ≡ length near = ap length longest.first.1 in
          omega arith

      -- the beat after the longest first part has a fault
      stopped : (b : BeatOf H w) → slice_get near (length (accepted_of r near)) ≡ Some b →
          fault_after r (accepted_of r near) b ≢ None
      stopped b e fine =
          let admitted : IsHanded r (accepted_of r near ++ b ∷ []) =
          (known.exact (accepted_of r near) b longest.handed
          (beats (length (accepted_of r near)) b e)).0 fine in
          let n : ℕ = length (accepted_of r near) in
          let front : take (suc n) near ≡ accepted_of r near ++ b ∷ [] = take-next near n b e ∙
          ap (λ q. q ++ b ∷ []) accepted_is in
          let k = longest.longest (accepted_of r near ++ b ∷ []) (
            drop (suc n) near,
            ap (λ q. q ++ drop (suc n) near) (sym front) ∙
                take-append-drop (suc n) near,
          ) admitted in
          no_longer (accepted_of r near) b k.0 k.1

      abbrev own : List (BeatOf H w) → List ℕ
      own xs = map (λ h. r.lane_address h 0) (heads r w xs)

      -- the reason why the next beat is refused, if nothing holds it back
      abbrev fault_alone : List (BeatOf H w) → BeatOf H w → Option SideFault
      fault_alone xs b = option_map_or (λ fault. Some (Beat fault)) (fault_after r xs b) None

      held_none : (o : Option BeatFault) (l : Bool) →
          option_map_or (λ fault. Some (Beat fault)) o None ≡
          option_map_or (λ fault. Some (Beat fault)) o (cond l None None)
      held_none (Some fault) l = refl
      held_none None true = refl
      held_none None false = refl

      no_fault : (o : Option BeatFault) →
          option_map_or (λ fault. Some (Beat fault)) o None ≡ None → o ≡ None
      no_fault None e = refl
      no_fault (Some fault) e = cc

      pub brings_alone : BringsAlone r near (far_alone r v near) (verdict_alone r v near)
      brings_alone =
          let n : ℕ = length (accepted_of r near) in
          let h : IsHanded r (take n near) =
          subst (λ q. IsHanded r q) (sym accepted_is) longest.handed in
          let handed : Handed r w (take n near) (own (take n near)) h.messages h.rest =
          subst (λ hs. Handed r w (take n near) hs h.messages h.rest)
          (own_homes fixed h.handed) h.handed in
          let stop : (b : BeatOf H w) → slice_get near n ≡ Some b →
          fault_alone (take n near) b ≢ None =
          λ b e none. stopped b e
          (ap (λ q. fault_after r q b) (sym accepted_is) ∙
          no_fault (fault_after r (take n near) b) none) in
          let same : (b : BeatOf H w) →
          fault_alone (take n near) b ≡ stops_next n within_near handed (λ x. None)
          (λ x fault q. cc) b =
          λ b. held_none (fault_after r (take n near) b) (left r w (take n near) == 0) in
          let P : List (BeatOf H w) → Type 0 = λ xs.
          Brings r near (due r w v xs (own xs)) n (own (take n near)) (λ x. None)
          (verdict_of n (length (due r w v xs (own xs))) (left r w xs)
          (option_map_or (fault_alone xs) (slice_get near n) None)) in
          record {
            longest = longest;
            brings = subst P accepted_is
                (brings n within_near handed (λ x. None) (λ x fault q. cc)
                (fault_alone (take n near)) same stop);
          }
