-- A list of events is extended by the effect of a call of a pipe: an event, or nothing.
use Rattle.tl_ring.proofs.Names.{◌≡◌, ◌≤◌, ◌-◌, ℕ, Bool, zero, suc, true, false, List, [], ◌∷◌, ◌++◌, length, take, drop, min, refl, sym, ap, subst}
use Rattle.tl_ring.proofs.Names.{◌∙◌, arith, append-nil, Rules, BeatOf, rest_of, World, Event, offer, push, pop, take_one, close, empty, offered}
use Rattle.tl_ring.proofs.Names.{pushed, popped, took, shut, effect, IsPossible, inbox_room, Run, done, happens, fails, IsReached}

module _ {H : Type 0} (r : Rules H) {w v : ℕ} where
  -- one event more
  run_then : {x y : World H w v} {es : List (Event H w)} → Run r x es y → (e : Event H w) → IsPossible r y e → Run r x (es ++ e ∷ []) (effect r y e)
  run_then (done x) e possible = happens x (effect r x e) e [] possible (done (effect r x e))
  run_then (happens x y f es before run) e possible = happens x (effect r y e) f (es ++ e ∷ []) before (run_then run e possible)
  run_then (fails x y f es never run) e possible = fails x (effect r y e) f (es ++ e ∷ []) never (run_then run e possible)

  pub reached_new : (room : ℕ) → IsReached r (empty {w = w} {v = v} room)
  reached_new room = record { events = []; run = done (empty room) }

  pub reached_offered : (x : World H w v) (b : BeatOf H w) (home : ℕ) → IsPossible r x (offer b home) → IsReached r x →
      IsReached r (offered r b home x)
  reached_offered x b home possible h = record { events = h.events ++ offer b home ∷ []; run = run_then h.run (offer b home) possible }

  pub reached_pushed : (k : ℕ) (x : World H w v) → k ≤ min (length x.stage) (x.room - length x.ring) → IsReached r x → IsReached r (pushed k x)
  reached_pushed zero x fits h =
      let same : x ≡ pushed 0 x = ap (λ t. record x { ring = t }) (sym (append-nil x.ring)) in
      subst (λ (y : World H w v). IsReached r y) same h
  reached_pushed (suc k) x fits h = record { events = h.events ++ push (suc k) ∷ []; run = run_then h.run (push (suc k)) (omega arith, fits) }

  pub reached_popped : (k : ℕ) (x : World H w v) → k ≤ min (length x.ring) (inbox_room - length x.inbox) → IsReached r x → IsReached r (popped k x)
  reached_popped zero x fits h =
      let same : x ≡ popped 0 x = ap (λ t. record x { inbox = t }) (sym (append-nil x.inbox)) in
      subst (λ (y : World H w v). IsReached r y) same h
  reached_popped (suc k) x fits h = record { events = h.events ++ pop (suc k) ∷ []; run = run_then h.run (pop (suc k)) (omega arith, fits) }

  -- if the inbox is empty, a take is no event
  took_nothing : (x : World H w v) → x.inbox ≡ [] → x ≡ took x
  took_nothing x none =
      let taken : x.taken ≡ x.taken ++ take 1 x.inbox = sym (append-nil x.taken) ∙ ap (λ t. x.taken ++ take 1 t) (sym none) in
      let inbox : x.inbox ≡ drop 1 x.inbox = none ∙ ap (λ t. drop 1 t) (sym none) in
      λ i. record x { taken = taken i; inbox = inbox i }

  reached_took_of : (x : World H w v) (inbox : List (BeatOf H v)) → x.inbox ≡ inbox → IsReached r x → IsReached r (took x)
  reached_took_of x [] e h = subst (λ (y : World H w v). IsReached r y) (took_nothing x e) h
  reached_took_of x (b ∷ inbox) e h =
      let size : length x.inbox ≡ length (b ∷ inbox) = ap length e in
      record { events = h.events ++ take_one ∷ []; run = run_then h.run take_one (omega arith) }

  pub reached_took : (x : World H w v) → IsReached r x → IsReached r (took x)
  reached_took x h = reached_took_of x x.inbox refl h

  -- a second close is no event
  reached_shut_of : (x : World H w v) (closed : Bool) → x.closed ≡ closed → rest_of r w x.accepted ≡ [] → IsReached r x → IsReached r (shut x)
  reached_shut_of x true e over h =
      let same : x ≡ shut x = ap (λ t. record x { closed = t }) e in
      subst (λ (y : World H w v). IsReached r y) same h
  reached_shut_of x false e over h = record { events = h.events ++ close ∷ []; run = run_then h.run close (e, over) }

  pub reached_shut : (x : World H w v) → rest_of r w x.accepted ≡ [] → IsReached r x → IsReached r (shut x)
  reached_shut x over h = reached_shut_of x x.closed refl over h
