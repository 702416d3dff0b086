-- The beats taken of one channel of a run, the room for them, and the end of the channel.
use Rattle.tl_run.proofs.Names.{◌≡◌, ◌≢◌, ◌+◌, ◌≤◌, ◌*◌, ◌++◌, ℕ, zero, suc, Bool, true, false, Option, None, Some, List, [], ◌∷◌, length, map, take}
use Rattle.tl_run.proofs.Names.{drop, get_or, refl, sym, ap, subst, ◌∙◌, arith, append-nil, append_assoc, length-append, length-take-le}
use Rattle.tl_run.proofs.Names.{slice_get_within, ◌==◌, slice_get, if◌then◌else◌, option_map_or, IsWidth, Rules, BeatOf, BeatFault, SideFault, Beat}
use Rattle.tl_run.proofs.Names.{SourceBusy, NoRequest, SizeMismatch, Verdict, heads, left, IsHanded, fault_after, due, accepted_of, accepted_after}
use Rattle.tl_run.proofs.Names.{World, HasRoom, stops_alone, verdict_of, far_alone, verdict_alone, Stops, IsSent, IsHomed, under_way, progress}
use Rattle.tl_run.proofs.Names.{stop_verdict, Stop, Done, Cut, Refused, Stopped, equal_true, not_equal, none_past}
use mathlib.Core.List.{IsPrefix}
use Rattle.tl_lanes.proofs.Widths.{width_bounds}
use Rattle.tl_msg.specs.declared.verdict.Verdict.TheVariants as ending
use Rattle.tl_burst.proofs.BegunMessages.{left-zero}
use Rattle.tl_convert.proofs.CountLoop.{accepted-all, accepted-stop}
use Rattle.tl_ring.specs.Laws.{Crosses}
use Rattle.tl_convert.proofs.DueCounts.{due_length}

-- four lists one after the other
four_lengths : {A : Type 0} (ps qs us zs : List A) → length (ps ++ qs ++ us ++ zs) ≡ length ps + length qs + length us + length zs
four_lengths ps qs us zs =
    length-append (ps ++ qs ++ us) zs ∙
    ap (λ n. n + length zs) (length-append (ps ++ qs) us ∙ ap (λ n. n + length us) (length-append ps qs))

-- an element of a list is at its index, whatever the default
stands_there : {A : Type 0} (xs : List A) (i : ℕ) (x : A) → slice_get xs i ≡ Some x → x ≡ get_or xs i x
stands_there [] i x e = cc
stands_there (y ∷ xs) zero x e = let h : y ≡ x = cc in sym h
stands_there (y ∷ xs) (suc i) x e = stands_there xs i x e

-- the reason why a beat of an independent channel is refused is a fault of its own
own_fault : (o : Option BeatFault) (f : SideFault) → option_map_or (λ fault. Some (Beat fault)) o None ≡ Some f →
    (g : BeatFault) × (o ≡ Some g) × (f ≡ Beat g)
own_fault None f e = cc
own_fault (Some g) f e = let h : Beat g ≡ f = cc in (g, refl, sym h)

-- lists of which nothing but the first has items
first-alone : {A : Type 0} (taken inbox ring stage all : List A) → taken ++ inbox ++ ring ++ stage ≡ all →
    length stage + length ring + length inbox ≡ 0 → taken ≡ all
first-alone taken [] [] [] all e none = sym (append-nil (taken ++ [] ++ []) ∙ append-nil (taken ++ []) ∙ append-nil taken) ∙ e
first-alone taken (b ∷ inbox) ring stage all e none = absurd (omega arith)
first-alone taken [] (b ∷ ring) stage all e none = absurd (omega arith)
first-alone taken [] [] (b ∷ stage) all e none = absurd (omega arith)

module _ {H : Type 0} (r : Rules H) {w v : ℕ} where
  -- the beats taken, followed by those in the inbox, are a beginning of those that are due
  pub inbox-due : (x : World H w v) → Crosses r x → (taken : List (BeatOf H v)) → taken ≡ x.taken → (all : List (BeatOf H v)) →
      due r w v x.accepted x.homes ≡ all →
      IsPrefix (taken ++ x.inbox) all
  inbox-due x c taken e all f =
      (x.ring ++ x.stage, ap (λ q. (q ++ x.inbox) ++ (x.ring ++ x.stage)) e ∙ sym (append_assoc (x.taken ++ x.inbox) x.ring x.stage) ∙ c.beats ∙ f)

  -- if nothing is under way, all due beats were taken
  pub all-taken : (x : World H w v) → Crosses r x → under_way x ≡ 0 → x.taken ≡ due r w v x.accepted x.homes
  all-taken x c rests = first-alone x.taken x.inbox x.ring x.stage (due r w v x.accepted x.homes) c.beats rests

  -- the accepted beats are handed
  pub handed-accepted : (x : World H w v) → Crosses r x → IsHanded r x.accepted
  handed-accepted x c = record { homes = x.homes; messages = c.messages; rest = c.rest; handed = c.handed }

module _ {H : Type 0} (r : Rules H) {w : ℕ} (bs : List (BeatOf H w)) (n : ℕ) (answer : BeatOf H w → Option SideFault)
    (accepted : List (BeatOf H w)) where
  -- a channel that is stopped refuses its next beat, if it has one
  pub stop-refuses : (stop : Stop) → Stops r bs n answer accepted (Stopped stop) → (b : BeatOf H w) → slice_get bs n ≡ Some b → answer b ≢ None
  stop-refuses (Refused fault) (c, at, is) b got = λ none. let same : c ≡ b = cc in let refused : answer b ≡ Some fault =
      subst (λ q. answer q ≡ Some fault) same is in cc
  stop-refuses Done (past, rest) b got = cc
  stop-refuses Cut (past, rest) b got = cc

  module _ (stops : BeatOf H w → Option SideFault) (same : (b : BeatOf H w) → answer b ≡ stops b) (far : ℕ) where
    -- the verdict, by what is left of the last message and what becomes of the next beat
    abbrev verdict_by : ℕ → Option SideFault → Verdict
    verdict_by lacks next = verdict_of n far lacks next

    -- the outcome of the next beat
    abbrev next_by : Option (BeatOf H w) → Option SideFault
    next_by o = option_map_or (λ b. stops b) o None

    -- the verdict if the next beat is refused
    by-refused : (lacks : ℕ) (fault : SideFault) (b : BeatOf H w) → slice_get bs n ≡ Some b → answer b ≡ Some fault →
        verdict_by lacks (Some fault) ≡ verdict_by lacks (next_by (slice_get bs n))
    by-refused lacks fault b at is =
        let told : Some fault ≡ stops b = sym is ∙ same b in
        ap (λ q. verdict_by lacks q) told ∙ ap (λ o. verdict_by lacks (next_by o)) (sym at)

    -- the verdict if no beat is left
    by-past : (lacks : ℕ) (t : Bool) → (lacks == 0) ≡ t → slice_get bs n ≡ None →
        (if t then ending.Done n far else ending.Cut n far) ≡ verdict_by lacks (next_by (slice_get bs n))
    by-past lacks t e past =
        ap (λ u. if u then ending.Done n far else ending.Cut n far) (sym e) ∙ ap (λ o. verdict_by lacks (next_by o)) (sym past)

    -- the verdict of a channel that is stopped is the one for its side's reason to refuse the next beat
    pub stop-verdict : (stop : Stop) → Stops r bs n answer accepted (Stopped stop) → IsHanded r accepted → accepted ≡ take n bs →
        stop_verdict stop n far ≡ verdict_of n far (left r w (take n bs)) (option_map_or (λ b. stops b) (slice_get bs n) None)
    stop-verdict Done (past, rest) h e =
        let none : left r w (take n bs) ≡ 0 = ap (λ q. left r w q) (sym e) ∙ (left-zero r w h.handed).1 rest in
        by-past (left r w (take n bs)) true (equal_true (left r w (take n bs)) 0 none) past
    stop-verdict Cut (past, rest) h e =
        let some : left r w (take n bs) ≢ 0 = λ z. rest ((left-zero r w h.handed).0 (ap (λ q. left r w q) e ∙ z)) in
        by-past (left r w (take n bs)) false (not_equal (left r w (take n bs)) 0 some) past
    stop-verdict (Refused (Beat fault)) (b, at, is) h e = by-refused (left r w (take n bs)) (Beat fault) b at is
    stop-verdict (Refused SourceBusy) (b, at, is) h e = by-refused (left r w (take n bs)) SourceBusy b at is
    stop-verdict (Refused NoRequest) (b, at, is) h e = by-refused (left r w (take n bs)) NoRequest b at is
    stop-verdict (Refused SizeMismatch) (b, at, is) h e = by-refused (left r w (take n bs)) SizeMismatch b at is

module _ {H : Type 0} (r : Rules H) {w v : ℕ} (ww : IsWidth w) (vw : IsWidth v) (bs : List (BeatOf H w)) (n : ℕ)
    (far : List (BeatOf H v)) (x : World H w v) where
  -- the accepted beats make no more far beats due than all beats that can be accepted
  due_most : IsSent r bs n far x → (hs ks : List ℕ) → length (due r w v x.accepted hs) ≤ length (due r w v (accepted_of r bs) ks)
  due_most s hs ks =
      subst (λ q. length (due r w v x.accepted hs) ≤ length (due r w v q ks))
      (ap (λ q. q ++ accepted_after r (take n bs) (drop n bs)) s.accepted ∙ sym s.lawful)
      (due_length r w v (width_bounds v vw).0 x.accepted (accepted_after r (take n bs) (drop n bs)) hs ks)

  -- every due far beat is at some place
  pub all_stand : Crosses r x → length x.taken + length x.inbox + length x.ring + length x.stage ≡ length (due r w v x.accepted x.homes)
  all_stand c = sym (four_lengths x.taken x.inbox x.ring x.stage) ∙ ap length c.beats

  -- the far list has room for all beats that were taken and those in the inbox
  pub room-for : IsSent r bs n far x → Crosses r x → (room : ℕ) → HasRoom r v bs room → length far + length x.inbox ≤ room
  room-for s c room has =
      let taken : length far ≡ length x.taken = ap length s.taken in
      let stand = all_stand c in
      let most = due_most s x.homes [] in
      let fits : length (due r w v (accepted_of r bs) []) ≤ room = has [] in
      omega arith

  -- the bound on the progress of a channel
  pub progress-most : IsSent r bs n far x → Crosses r x → progress n x ≤ length bs + 2 * length (due r w v (accepted_of r bs) [])
  progress-most s c =
      let stand = all_stand c in
      let most = due_most s x.homes [] in
      let few : n ≤ length bs = s.most in
      omega arith

  -- if nothing is under way, a channel has reached this bound
  pub progress-end : IsSent r bs n far x → under_way x ≡ 0 → progress n x ≡ n + 2 * length far
  progress-end s rest =
      let taken : length far ≡ length x.taken = ap length s.taken in
      omega arith

  -- if nothing is under way, the beats taken are all due beats
  pub taken-end : IsSent r bs n far x → Crosses r x → under_way x ≡ 0 → far ≡ due r w v x.accepted x.homes
  taken-end s c rest = s.taken ∙ all-taken r x c rest

  -- a stopped channel that does not depend on another channel has accepted all beats that it can ever accept
  accepted_end : (stop : Stop) → Stops r bs n (stops_alone r x.accepted) x.accepted (Stopped stop) →
      IsSent r bs n far x → accepted_of r bs ≡ take n bs
  accepted_end Done stops s = accepted-all r bs n s.lawful (none_past bs n stops.0)
  accepted_end Cut stops s = accepted-all r bs n s.lawful (none_past bs n stops.0)
  accepted_end (Refused fault) (b, there, answer) s =
      let own = own_fault (fault_after r x.accepted b) fault answer in
      accepted-stop r bs n s.lawful b (slice_get_within bs n b there) (stands_there bs n b there) own.0
      (ap (λ q. fault_after r q b) (sym s.accepted) ∙ own.1)

  -- a verdict by what was accepted, as the definition of the outcome reads it
  abbrev verdict_at : (near beats : ℕ) → List (BeatOf H w) → Verdict
  verdict_at near beats accepted =
      verdict_of near beats (left r w accepted) (option_map_or (λ b. stops_alone r accepted b) (slice_get bs near) None)

  -- a channel that does not depend on another channel, B, C or E, has the final state of the definitions
  module _ (stop : Stop) (stops : Stops r bs n (stops_alone r x.accepted) x.accepted (Stopped stop)) where
    pub count-end : IsSent r bs n far x → n ≡ length (accepted_of r bs)
    count-end s = sym (ap length (accepted_end stop stops s) ∙ length-take-le n bs s.most)

    pub far-end : IsSent r bs n far x → Crosses r x → IsHomed r x → under_way x ≡ 0 → far ≡ far_alone r v bs
    far-end s c homed rest =
        taken-end s c rest ∙ ap (λ hs. due r w v x.accepted hs) homed ∙
        ap (λ q. due r w v q (map (λ h. r.lane_address h 0) (heads r w q))) (s.accepted ∙ sym (accepted_end stop stops s))

    pub verdict-end : IsSent r bs n far x → Crosses r x → IsHomed r x → under_way x ≡ 0 → stop_verdict stop n (length far) ≡ verdict_alone r v bs
    verdict-end s c homed rest =
        stop-verdict r bs n (stops_alone r x.accepted) x.accepted (stops_alone r x.accepted) (λ b. refl) (length far) stop stops
        (handed-accepted r x c) s.accepted ∙
        ap (λ q. verdict_of n (length far) (left r w q) (option_map_or (λ b. stops_alone r x.accepted b) (slice_get bs n) None)) (sym s.accepted) ∙
        ap (λ q. verdict_at n (length far) q) (s.accepted ∙ sym (accepted_end stop stops s)) ∙
        ap (λ k. verdict_at k (length far) (accepted_of r bs)) (count-end s) ∙
        ap (λ k. verdict_at (length (accepted_of r bs)) k (accepted_of r bs)) (ap length (far-end s c homed rest))
