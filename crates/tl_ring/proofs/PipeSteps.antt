-- Each call of a pipe has the effect of the same event on its crossing.
use Rattle.tl_ring.proofs.Names.{◌≡◌, ◌≤◌, ◌+◌, ◌-◌, ℕ, true, false, List, [], ◌∷◌, ◌++◌, length, take, drop, min, refl, sym, ap, subst, ◌∙◌, arith}
use Rattle.tl_ring.proofs.Names.{append_assoc, append-nil, length-append, length-take, length-drop, drop-append_seam, Rules, BeatOf, rest_of}
use Rattle.tl_ring.proofs.Names.{homes_with, due, Outgoing, HasSent, World, empty, offered, pushed, popped, took, shut, inbox_room}
use Rattle.tl_ring.specs.Pipe.{Pipe, StandsFor, outbox_of}
use Rattle.tl_ring.proofs.Boxes.{has_more_sent, has_closed, reached_by, crosses_by}
use Rattle.tl_ring.proofs.Moves.{cut_moves, cut_moves_after}

module _ {H : Type 0} (r : Rules H) {w v : ℕ} (partial_masked : (h : H) → r.partial h ≡ true → r.masked ≡ true) where
  -- a pipe represents a crossing if its outbox represents its history, with the sent beats divided among the beats
  -- taken, the inbox and the ring
  pub stands_of : (p : Pipe H v) (x : World H w v) → 1 ≤ x.room → p.room ≡ x.room → p.stage ≡ x.stage → p.ring ≡ x.ring → p.inbox ≡ x.inbox →
      p.closed ≡ x.closed → length x.ring ≤ x.room → length x.inbox ≤ inbox_room →
      HasSent r (outbox_of p) x.accepted x.homes (x.taken ++ x.inbox ++ x.ring) → StandsFor r p x
  stands_of p x some room stage ring inbox closed fits held h = record {
    outbox = h;
    some_room = some;
    room = room;
    stage = stage;
    ring = ring;
    inbox = inbox;
    closed = closed;
    reached = reached_by r (outbox_of p) x some stage closed fits held h;
    crosses = crosses_by r partial_masked (outbox_of p) x stage closed fits held h;
  }

  pub stands_new : (p : Pipe H v) (size : ℕ) → 1 ≤ size → HasSent r {w = w} (outbox_of p) [] [] [] → p.room ≡ size → p.stage ≡ [] →
      p.ring ≡ [] → p.inbox ≡ [] → p.closed ≡ false → StandsFor r p (empty {w = w} size)
  stands_new p size some h room none_staged no_ring no_inbox still =
      stands_of p (empty {w = w} size) some room none_staged no_ring no_inbox still (omega arith) (omega arith) h

  -- the beats that an empty outbox has staged after an offer are those that the offer makes due
  pub staged_of : (x : World H w v) (b : BeatOf H w) (home : ℕ) (o o' : Outgoing H v) → o.stage ≡ [] →
      HasSent r o x.accepted x.homes (x.taken ++ x.inbox ++ x.ring) →
      HasSent r o' (x.accepted ++ b ∷ []) (homes_with r x.accepted x.homes b home) (x.taken ++ x.inbox ++ x.ring) →
      o'.stage ≡ (offered r b home x).stage
  staged_of x b home o o' none_staged h h' =
      let all : List (BeatOf H v) = x.taken ++ x.inbox ++ x.ring in
      let before : due r w v x.accepted x.homes ≡ all = sym h.beats ∙ ap (λ t. all ++ t) none_staged ∙ append-nil all in
      sym (drop-append_seam (due r w v x.accepted x.homes) o'.stage) ∙
      ap (λ t. drop (length (due r w v x.accepted x.homes)) t) (ap (λ t. t ++ o'.stage) before ∙ h'.beats)

  pub stands_offered : (p : Pipe H v) (x : World H w v) (b : BeatOf H w) (home : ℕ) (o : Outgoing H v) → p.stage ≡ [] → p.closed ≡ false →
      o.closed ≡ false →
      HasSent r o (x.accepted ++ b ∷ []) (homes_with r x.accepted x.homes b home) (x.taken ++ x.inbox ++ x.ring) → StandsFor r p x →
      StandsFor r (record p { converter = o.converter; stage = o.stage; closed = o.closed }) (offered r b home x)
  stands_offered p x b home o none_staged still still' h' h =
      stands_of (record p { converter = o.converter; stage = o.stage; closed = o.closed }) (offered r b home x) h.some_room h.room
      (staged_of x b home (outbox_of p) o none_staged h.outbox h') h.ring h.inbox (still' ∙ sym still ∙ h.closed) h.crosses.ring_room
      h.crosses.inbox_size h'

  pub stands_pushed : (k : ℕ) (p : Pipe H v) (x : World H w v) → k ≤ min (length p.stage) (p.room - length p.ring) → StandsFor r p x →
      StandsFor r (record p { stage = drop k p.stage; ring = p.ring ++ take k p.stage }) (pushed k x)
  stands_pushed k p x fits h =
      let q : Pipe H v = record p { stage = drop k p.stage; ring = p.ring ++ take k p.stage } in
      let all : List (BeatOf H v) = x.taken ++ x.inbox ++ x.ring in
      let stage : length p.stage ≡ length x.stage = ap length h.stage in
      let ring : length p.ring ≡ length x.ring = ap length h.ring in
      let room : p.room ≡ x.room = h.room in
      let inside : length x.ring ≤ x.room = h.crosses.ring_room in
      let size : length (x.ring ++ take k x.stage) ≡ length x.ring + min k (length x.stage) =
      length-append x.ring (take k x.stage) ∙ ap (λ n. length x.ring + n) (length-take k x.stage) in
      let sent : all ++ take k p.stage ≡ x.taken ++ x.inbox ++ (x.ring ++ take k x.stage) =
      ap (λ t. all ++ take k t) h.stage ∙ append_assoc (x.taken ++ x.inbox) x.ring (take k x.stage) in
      stands_of q (pushed k x) h.some_room h.room (ap (λ t. drop k t) h.stage)
      (ap (λ t. t ++ take k p.stage) h.ring ∙ ap (λ t. x.ring ++ take k t) h.stage) h.inbox h.closed (omega arith) h.crosses.inbox_size
      (subst (λ t. HasSent r (outbox_of q) x.accepted x.homes t) sent (has_more_sent r k (outbox_of p) x.accepted x.homes all h.outbox))

  pub stands_popped : (k : ℕ) (p : Pipe H v) (x : World H w v) → k ≤ min (length p.ring) (inbox_room - length p.inbox) → StandsFor r p x →
      StandsFor r (record p { ring = drop k p.ring; inbox = p.inbox ++ take k p.ring }) (popped k x)
  stands_popped k p x fits h =
      let ring : length p.ring ≡ length x.ring = ap length h.ring in
      let inbox : length p.inbox ≡ length x.inbox = ap length h.inbox in
      let inside : length x.ring ≤ x.room = h.crosses.ring_room in
      let held : length x.inbox ≤ inbox_room = h.crosses.inbox_size in
      let fewer : length (drop k x.ring) ≡ length x.ring - k = length-drop k x.ring in
      let size : length (x.inbox ++ take k x.ring) ≡ length x.inbox + min k (length x.ring) =
      length-append x.inbox (take k x.ring) ∙ ap (λ n. length x.inbox + n) (length-take k x.ring) in
      stands_of (record p { ring = drop k p.ring; inbox = p.inbox ++ take k p.ring }) (popped k x) h.some_room h.room h.stage
      (ap (λ t. drop k t) h.ring) (ap (λ t. t ++ take k p.ring) h.inbox ∙ ap (λ t. x.inbox ++ take k t) h.ring) h.closed (omega arith) (omega arith)
      (subst (λ t. HasSent r (outbox_of p) x.accepted x.homes t) (sym (cut_moves_after x.taken k x.inbox x.ring)) h.outbox)

  pub stands_took : (p : Pipe H v) (x : World H w v) → StandsFor r p x → StandsFor r (record p { inbox = drop 1 p.inbox }) (took x)
  stands_took p x h =
      let held : length x.inbox ≤ inbox_room = h.crosses.inbox_size in
      let fewer : length (drop 1 x.inbox) ≡ length x.inbox - 1 = length-drop 1 x.inbox in
      stands_of (record p { inbox = drop 1 p.inbox }) (took x) h.some_room h.room h.stage h.ring (ap (λ t. drop 1 t) h.inbox) h.closed
      h.crosses.ring_room (omega arith)
      (subst (λ t. HasSent r (outbox_of p) x.accepted x.homes (t ++ x.ring)) (sym (cut_moves 1 x.taken x.inbox)) h.outbox)

  -- all of the inbox is taken
  pub stands_emptied : (p : Pipe H v) (x : World H w v) → StandsFor r p x →
      StandsFor r (record p { inbox = [] }) (record x { inbox = []; taken = x.taken ++ x.inbox })
  stands_emptied p x h =
      stands_of (record p { inbox = [] }) (record x { inbox = []; taken = x.taken ++ x.inbox }) h.some_room h.room h.stage h.ring refl h.closed
      h.crosses.ring_room (omega arith)
      (subst (λ t. HasSent r (outbox_of p) x.accepted x.homes (t ++ x.ring)) (sym (append-nil (x.taken ++ x.inbox))) h.outbox)

  pub stands_shut : (p : Pipe H v) (x : World H w v) → rest_of r w x.accepted ≡ [] → StandsFor r p x →
      StandsFor r (record p { closed = true }) (shut x)
  stands_shut p x over h =
      stands_of (record p { closed = true }) (shut x) h.some_room h.room h.stage h.ring h.inbox refl h.crosses.ring_room h.crosses.inbox_size
      (has_closed r (outbox_of p) x.accepted x.homes (x.taken ++ x.inbox ++ x.ring) over h.outbox)
