-- The sending end does not depend on how far the taking end has come: if a crossing can be reached, so can the one in
-- which the beats that entered its ring are divided differently among the ring, the inbox and the beats taken.
use Rattle.tl_ring.proofs.Names.{◌≡◌, ◌≤◌, ◌<◌, ◌+◌, ◌-◌, ℕ, zero, suc, List, [], ◌∷◌, ◌++◌, length, take, drop, min, refl, sym, ap, subst, ◌∙◌}
use Rattle.tl_ring.proofs.Names.{arith, ⊎_elim, append_assoc, append-nil, length-append, length-take, length-drop, take_all, drop_all, take-append-le}
use Rattle.tl_ring.proofs.Names.{drop-append-le, cases_lt, drop-append_seam, take-append_seam, Rules, BeatOf, World, Event, offer, push, pop}
use Rattle.tl_ring.proofs.Names.{take_one, close, empty, pushed, popped, took, effect, IsPossible, inbox_room, Run, done, happens, fails, IsReached}
use Rattle.tl_ring.proofs.Moves.{cut_moves, cut_moves_after}
use Rattle.tl_ring.proofs.Reached.{reached_new, reached_offered, reached_pushed, reached_popped, reached_took, reached_shut}

module _ {H : Type 0} {w v : ℕ} where
  -- the beats that went into the ring so far, in order
  abbrev through : World H w v → List (BeatOf H v)
  through x = x.taken ++ x.inbox ++ x.ring

  -- the same crossing, if these beats entered the ring, the first t of them were taken, and p of them fetched
  abbrev parted : (t p : ℕ) → List (BeatOf H v) → World H w v → World H w v
  parted t p all x = record x { ring = drop p all; inbox = drop t (take p all); taken = take t all }

module _ {H : Type 0} (r : Rules H) {w v : ℕ} where
  -- one staged beat moves on: into the ring, through it into the inbox, or to the receiver
  into_ring : (x : World H w v) (b : BeatOf H v) (more : List (BeatOf H v)) → x.stage ≡ b ∷ more → length x.ring < x.room →
      IsReached r x → IsReached r (record x { stage = more; ring = x.ring ++ b ∷ [] })
  into_ring x b more staged fits h =
      let some : length x.stage ≡ length (b ∷ more) = ap length staged in
      let e : pushed 1 x ≡ record x { stage = more; ring = x.ring ++ b ∷ [] } =
      λ i. record x { stage = drop 1 (staged i); ring = x.ring ++ take 1 (staged i) } in
      subst (λ (y : World H w v). IsReached r y) e (reached_pushed r 1 x (omega arith) h)

  into_inbox : (x : World H w v) (b : BeatOf H v) (more : List (BeatOf H v)) → x.stage ≡ b ∷ more → x.ring ≡ [] → 1 ≤ x.room →
      length x.inbox < inbox_room → IsReached r x → IsReached r (record x { stage = more; ring = []; inbox = x.inbox ++ b ∷ [] })
  into_inbox x b more staged none room fits h =
      let no_ring : length x.ring ≡ 0 = ap length none in
      let y : World H w v = record x { stage = more; ring = x.ring ++ b ∷ [] } in
      let in_ring : length y.ring ≡ length x.ring + 1 = length-append x.ring (b ∷ []) in
      let e : popped 1 y ≡ record x { stage = more; ring = []; inbox = x.inbox ++ b ∷ [] } =
      λ i. record x { stage = more; ring = drop 1 (none i ++ b ∷ []); inbox = x.inbox ++ take 1 (none i ++ b ∷ []) } in
      subst (λ (z : World H w v). IsReached r z) e (reached_popped r 1 y (omega arith) (into_ring x b more staged (omega arith) h))

  pub into_taken : (x : World H w v) (b : BeatOf H v) (more : List (BeatOf H v)) → x.stage ≡ b ∷ more → x.ring ≡ [] → x.inbox ≡ [] → 1 ≤ x.room →
      IsReached r x → IsReached r (record x { stage = more; ring = []; inbox = []; taken = x.taken ++ b ∷ [] })
  into_taken x b more staged none empty_inbox room h =
      let no_inbox : length x.inbox ≡ 0 = ap length empty_inbox in
      let y : World H w v = record x { stage = more; ring = []; inbox = x.inbox ++ b ∷ [] } in
      let e : took y ≡ record x { stage = more; ring = []; inbox = []; taken = x.taken ++ b ∷ [] } =
      λ i. record x { stage = more; ring = []; inbox = drop 1 (empty_inbox i ++ b ∷ []); taken = x.taken ++ take 1 (empty_inbox i ++ b ∷ []) } in
      subst (λ (z : World H w v). IsReached r z) e (reached_took r y (into_inbox x b more staged none room (omega arith) h))

  -- one more beat went into the ring
  one_more : (t p : ℕ) → t ≤ p → p ≤ t + inbox_room → (all : List (BeatOf H v)) (x : World H w v) (b : BeatOf H v) (more : List (BeatOf H v)) →
      x.stage ≡ b ∷ more → 1 ≤ x.room → length all < p + x.room → IsReached r (parted t p all x) →
      IsReached r (parted t p (all ++ b ∷ []) (record x { stage = more }))
  one_more t p order held all x b more staged room fits h =
      let P : World H w v → Type 0 = λ y. IsReached r y in
      let longer : length (all ++ b ∷ []) ≡ length all + 1 = length-append all (b ∷ []) in
      ⊎_elim
      (λ short.
      let no_ring : drop p all ≡ [] = drop_all p all (omega arith) in
      let ring : drop p (all ++ b ∷ []) ≡ [] = drop_all p (all ++ b ∷ []) (omega arith) in
      let front : take p all ≡ all = take_all p all (omega arith) in
      let front' : take p (all ++ b ∷ []) ≡ all ++ b ∷ [] = take_all p (all ++ b ∷ []) (omega arith) in
      ⊎_elim
      (λ not_yet.
      let no_inbox : drop t (take p all) ≡ [] = ap (λ xs. drop t xs) front ∙ drop_all t all (omega arith) in
      let inbox : drop t (take p (all ++ b ∷ [])) ≡ [] = ap (λ xs. drop t xs) front' ∙ drop_all t (all ++ b ∷ []) (omega arith) in
      let first : take t (all ++ b ∷ []) ≡ take t all ++ b ∷ [] =
      take_all t (all ++ b ∷ []) (omega arith) ∙ ap (λ xs. xs ++ b ∷ []) (sym (take_all t all (omega arith))) in
      let e : record x { stage = more; ring = []; inbox = []; taken = take t all ++ b ∷ [] } ≡
      parted t p (all ++ b ∷ []) (record x { stage = more }) =
      λ i. record x { stage = more; ring = sym ring i; inbox = sym inbox i; taken = sym first i } in
      subst P e (into_taken (parted t p all x) b more staged no_ring no_inbox room h))
      (λ taken_all.
      let in_inbox : length (drop t (take p all)) ≡ length all - t = ap (λ xs. length (drop t xs)) front ∙ length-drop t all in
      let inbox : drop t (take p (all ++ b ∷ [])) ≡ drop t (take p all) ++ b ∷ [] =
      ap (λ xs. drop t xs) front' ∙ drop-append-le t all (b ∷ []) taken_all ∙ ap (λ xs. drop t xs ++ b ∷ []) (sym front) in
      let first : take t (all ++ b ∷ []) ≡ take t all = take-append-le t all (b ∷ []) taken_all in
      let e : record x { stage = more; ring = []; inbox = drop t (take p all) ++ b ∷ []; taken = take t all } ≡
      parted t p (all ++ b ∷ []) (record x { stage = more }) =
      λ i. record x { stage = more; ring = sym ring i; inbox = sym inbox i; taken = sym first i } in
      subst P e (into_inbox (parted t p all x) b more staged no_ring room (omega arith) h))
      (cases_lt (length all) t))
      (λ fetched.
      let in_ring : length (drop p all) ≡ length all - p = length-drop p all in
      let ring : drop p (all ++ b ∷ []) ≡ drop p all ++ b ∷ [] = drop-append-le p all (b ∷ []) fetched in
      let front : take p (all ++ b ∷ []) ≡ take p all = take-append-le p all (b ∷ []) fetched in
      let first : take t (all ++ b ∷ []) ≡ take t all = take-append-le t all (b ∷ []) (omega arith) in
      let e : record x { stage = more; ring = drop p all ++ b ∷ []; inbox = drop t (take p all); taken = take t all } ≡
      parted t p (all ++ b ∷ []) (record x { stage = more }) =
      λ i. record x { stage = more; ring = sym ring i; inbox = drop t (sym front i); taken = sym first i } in
      subst P e (into_ring (parted t p all x) b more staged (omega arith) h))
      (cases_lt (length all) p)

  -- several staged beats entered the ring
  more_sent : (t p : ℕ) → t ≤ p → p ≤ t + inbox_room → (k : ℕ) (stage all : List (BeatOf H v)) (x : World H w v) → x.stage ≡ stage → 1 ≤ x.room →
      length all + min k (length stage) ≤ p + x.room → IsReached r (parted t p all x) →
      IsReached r (parted t p (all ++ take k stage) (record x { stage = drop k stage }))
  more_sent t p order held zero stage all x staged room fits h =
      let e : parted t p all x ≡ parted t p (all ++ []) (record x { stage = stage }) =
      λ i. parted t p (sym (append-nil all) i) (record x { stage = staged i }) in
      subst (λ (y : World H w v). IsReached r y) e h
  more_sent t p order held (suc k) [] all x staged room fits h =
      let e : parted t p all x ≡ parted t p (all ++ []) (record x { stage = [] }) =
      λ i. parted t p (sym (append-nil all) i) (record x { stage = staged i }) in
      subst (λ (y : World H w v). IsReached r y) e h
  more_sent t p order held (suc k) (b ∷ more) all x staged room fits h =
      let longer : length (all ++ b ∷ []) ≡ length all + 1 = length-append all (b ∷ []) in
      let next : IsReached r (parted t p ((all ++ b ∷ []) ++ take k more) (record x { stage = drop k more })) =
      more_sent t p order held k more (all ++ b ∷ []) (record x { stage = more }) refl room (omega arith)
      (one_more t p order held all x b more staged room (omega arith) h) in
      let joined : (all ++ b ∷ []) ++ take k more ≡ all ++ (b ∷ take k more) = append_assoc all (b ∷ []) (take k more) in
      subst (λ all'. IsReached r (parted t p all' (record x { stage = drop k more }))) joined next

  -- the beats that each event adds to those that entered the ring
  grows : (x : World H w v) (e : Event H w) → length (through x) ≤ length (through (effect r x e))
  grows x (offer b home) = omega arith
  grows x (push k) =
      let one : length (x.taken ++ x.inbox ++ x.ring) ≡ length (x.taken ++ x.inbox) + length x.ring = length-append (x.taken ++ x.inbox) x.ring in
      let two : length (x.taken ++ x.inbox ++ (x.ring ++ take k x.stage)) ≡ length (x.taken ++ x.inbox) + length (x.ring ++ take k x.stage) =
      length-append (x.taken ++ x.inbox) (x.ring ++ take k x.stage) in
      let three : length (x.ring ++ take k x.stage) ≡ length x.ring + length (take k x.stage) = length-append x.ring (take k x.stage) in
      omega arith
  grows x (pop k) = let e = ap length (cut_moves_after x.taken k x.inbox x.ring) in omega arith
  grows x take_one = let e = ap (λ t. length (t ++ x.ring)) (cut_moves 1 x.taken x.inbox) in omega arith
  grows x close = omega arith

  same_room : (x : World H w v) (e : Event H w) → (effect r x e).room ≡ x.room
  same_room x (offer b home) = refl
  same_room x (push k) = refl
  same_room x (pop k) = refl
  same_room x take_one = refl
  same_room x close = refl

  grows_run : {x y : World H w v} {es : List (Event H w)} → Run r x es y → (length (through x) ≤ length (through y)) × (y.room ≡ x.room)
  grows_run (done x) = (omega arith, refl)
  grows_run (happens x y e es possible run) =
      let now = grows x e in
      let later = grows_run run in
      (omega (arith, now, later.0), later.1 ∙ same_room x e)
  grows_run (fails x y e es never run) = grows_run run

  -- each event except a push leaves the beats that entered the ring, so it is the same event, or none, if they are
  -- divided differently
  parted_effect : (t p : ℕ) → t ≤ p → p ≤ t + inbox_room → (x : World H w v) (e : Event H w) → IsPossible r x e → 1 ≤ x.room →
      length (through (effect r x e)) ≤ p + x.room → IsReached r (parted t p (through x) x) →
      IsReached r (parted t p (through (effect r x e)) (effect r x e))
  parted_effect t p order held x (offer b home) possible room fits h = reached_offered r (parted t p (through x) x) b home possible h
  parted_effect t p order held x (push k) possible room fits h =
      let one : length (x.taken ++ x.inbox ++ x.ring) ≡ length (x.taken ++ x.inbox) + length x.ring = length-append (x.taken ++ x.inbox) x.ring in
      let two : length (x.taken ++ x.inbox ++ (x.ring ++ take k x.stage)) ≡ length (x.taken ++ x.inbox) + length (x.ring ++ take k x.stage) =
      length-append (x.taken ++ x.inbox) (x.ring ++ take k x.stage) in
      let three : length (x.ring ++ take k x.stage) ≡ length x.ring + length (take k x.stage) = length-append x.ring (take k x.stage) in
      let four : length (take k x.stage) ≡ min k (length x.stage) = length-take k x.stage in
      let joined : x.taken ++ x.inbox ++ x.ring ++ take k x.stage ≡ x.taken ++ x.inbox ++ (x.ring ++ take k x.stage) =
      append_assoc (x.taken ++ x.inbox) x.ring (take k x.stage) in
      subst (λ all. IsReached r (parted t p all (record x { stage = drop k x.stage }))) joined
      (more_sent t p order held k x.stage (through x) x refl room (omega arith) h)
  parted_effect t p order held x (pop k) possible room fits h =
      subst (λ all. IsReached r (parted t p all x)) (sym (cut_moves_after x.taken k x.inbox x.ring)) h
  parted_effect t p order held x take_one possible room fits h =
      subst (λ all. IsReached r (parted t p all x)) (sym (ap (λ t. t ++ x.ring) (cut_moves 1 x.taken x.inbox))) h
  parted_effect t p order held x close possible room fits h = reached_shut r (parted t p (through x) x) possible.1 h

  parted_run : (t p : ℕ) → t ≤ p → p ≤ t + inbox_room → {x y : World H w v} {es : List (Event H w)} → Run r x es y → 1 ≤ x.room →
      length (through y) ≤ p + y.room → IsReached r (parted t p (through x) x) → IsReached r (parted t p (through y) y)
  parted_run t p order held (done x) room fits h = h
  parted_run t p order held (happens x y e es possible run) room fits h =
      let later = grows_run run in
      let same : (effect r x e).room ≡ x.room = same_room x e in
      parted_run t p order held run (omega (arith, same, room)) fits
      (parted_effect t p order held x e possible room (omega (arith, later.0, later.1, same, fits)) h)
  parted_run t p order held (fails x y e es never run) room fits h = parted_run t p order held run room fits h

  pub reached_parted : (x : World H w v) → 1 ≤ x.room → (taken inbox ring : List (BeatOf H v)) →
      x.taken ++ x.inbox ++ x.ring ≡ taken ++ inbox ++ ring →
      length inbox ≤ inbox_room → length ring ≤ x.room → IsReached r x → IsReached r (record x { ring = ring; inbox = inbox; taken = taken })
  reached_parted x room taken inbox ring all held fits h =
      let t : ℕ = length taken in
      let p : ℕ = length (taken ++ inbox) in
      let size : length (taken ++ inbox) ≡ length taken + length inbox = length-append taken inbox in
      let whole : length (taken ++ inbox ++ ring) ≡ length (taken ++ inbox) + length ring = length-append (taken ++ inbox) ring in
      let in_all : length (through x) ≡ length (taken ++ inbox ++ ring) = ap length all in
      let order : t ≤ p = omega arith in
      let reach : p ≤ t + inbox_room = omega arith in
      let size_fits : length (through x) ≤ p + x.room = omega arith in
      let first : t ≤ length (taken ++ inbox) = omega arith in
      let start : empty {w = w} {v = v} x.room ≡ parted t p [] (empty {w = w} {v = v} x.room) =
      λ i. record (empty {w = w} {v = v} x.room) {
        ring = sym (drop_all p [] (omega arith)) i;
        inbox = sym (ap (λ xs. drop t xs) (take_all p [] (omega arith)) ∙ drop_all t [] (omega arith)) i;
        taken = sym (take_all t [] (omega arith)) i;
      } in
      let begins : IsReached r (parted t p [] (empty {w = w} {v = v} x.room)) =
      subst (λ (y : World H w v). IsReached r y) start (reached_new r x.room) in
      let ends : IsReached r (parted t p (through x) x) =
      parted_run t p order reach h.run room size_fits begins in
      let ring_is : drop p (through x) ≡ ring = ap (λ xs. drop p xs) all ∙ drop-append_seam (taken ++ inbox) ring in
      let front : take p (through x) ≡ taken ++ inbox = ap (λ xs. take p xs) all ∙ take-append_seam (taken ++ inbox) ring in
      let inbox_is : drop t (take p (through x)) ≡ inbox = ap (λ xs. drop t xs) front ∙ drop-append_seam taken inbox in
      let taken_is : take t (through x) ≡ taken =
      ap (λ xs. take t xs) all ∙ take-append-le t (taken ++ inbox) ring first ∙ take-append_seam taken inbox in
      let e : parted t p (through x) x ≡ record x { ring = ring; inbox = inbox; taken = taken } =
      λ i. record x { ring = ring_is i; inbox = inbox_is i; taken = taken_is i } in
      subst (λ (y : World H w v). IsReached r y) e ends
