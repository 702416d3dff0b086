-- The staged beats of a channel move into its ring; if it has too little room, the ring's beats move on first.
use Rattle.std.proofs.Common.{◌≡◌, ◌-◌, ◌++◌, ℕ, Bool, true, false, cond, [], List, length, take, drop, min, refl, sym, subst, ap, ◌∙◌, append-nil}
use Rattle.std.proofs.Common.{arith}
use Rattle.std.specs.Prelude.{◌==◌}
use Rattle.tl_sides.proofs.Words.{Buffer, buffer, Rules, BeatOf, Outgoing, World, pushed, Pipe, inbox_room, stands_pushed, stands_popped}
use Rattle.tl_sides.proofs.Words.{equal_true, not_equal}
use Rattle.tl_ring.specs.Pipe.{StandsFor}
use Rattle.tl_sides.specs.Bridges.{pump_count, fetch_count}
use Rattle.tl_sides.specs.ChannelCalls.{after_pass_on, fetched, passed, passed_on, pumped}
use Rattle.tl_sides.specs.Joining.{pipe_of}

-- beats only entered a ring, if none came out and no more entered
none-again : {H : Type 0} {w v : ℕ} (k : ℕ) (x : World H w v) → pushed k x ≡ passed_on k 0 0 x
none-again k x = sym (ap (λ l. record (pushed k x) { ring = l; inbox = x.inbox ++ [] }) (append-nil (pushed k x).ring) ∙
    ap (λ l. record (pushed k x) { inbox = l }) (append-nil x.inbox))

module _ {H : Type 0} {v : ℕ} where
  -- the effect of a pump on an outbox and a ring is the one on their pipe, and that of a fetch on a ring and an inbox
  -- also
  pub is_pumped : (o : Outgoing H v) {o' : Outgoing H v} (ring : Buffer (BeatOf H v)) {ring' : Buffer (BeatOf H v)}
      (inbox : List (BeatOf H v)) (k : ℕ) → k ≡ min (length o.stage) (ring.capacity - length ring.items) → o' ≡ record o { stage = drop k o.stage } →
      ring' ≡ buffer (ring.items ++ take k o.stage) ring.capacity → pipe_of o' ring' inbox ≡ pumped (pipe_of o ring inbox)
  is_pumped o ring inbox k count rest grown = rw (rest, grown, count) refl

  pub is_fetched : (o : Outgoing H v) (ring : Buffer (BeatOf H v)) {ring' : Buffer (BeatOf H v)} (inbox : List (BeatOf H v))
      {inbox' : List (BeatOf H v)} (k : ℕ) → k ≡ min (length ring.items) (inbox_room - length inbox) →
      ring' ≡ buffer (drop k ring.items) ring.capacity →
      inbox' ≡ inbox ++ take k ring.items → pipe_of o ring' inbox' ≡ fetched (pipe_of o ring inbox)
  is_fetched o ring inbox k count left more = rw (left, more, count) refl

  -- nothing is staged any more after the first pump, or something is
  pub all_passed : (p q : Pipe H v) → q ≡ pumped p → length q.stage ≡ 0 → q ≡ passed p
  all_passed p q first none =
      let test : (length (pumped p).stage == 0) ≡ true = equal_true (length (pumped p).stage) 0 (ap (λ t. length t.stage) (sym first) ∙ none) in
      first ∙ ap (λ t. cond t (pumped p) (pumped (fetched (pumped p)))) (sym test)

  pub rest_passed : (p q t u : Pipe H v) → q ≡ pumped p → t ≡ fetched q → u ≡ pumped t → (length q.stage ≡ 0 → ⊥) → u ≡ passed p
  rest_passed p q t u first out again some =
      let test : (length (pumped p).stage == 0) ≡ false =
      not_equal (length (pumped p).stage) 0 (λ none. some (ap (λ t. length t.stage) first ∙ none)) in
      again ∙ ap pumped (out ∙ ap fetched first) ∙ ap (λ t. cond t (pumped p) (pumped (fetched (pumped p)))) (sym test)

module _ {H : Type 0} (r : Rules H) (masked : (h : H) → r.partial h ≡ true → r.masked ≡ true) {w v : ℕ} where
  pumps : (p : Pipe H v) (x : World H w v) → StandsFor r p x → StandsFor r (pumped p) (pushed (pump_count p) x)
  pumps p x h = stands_pushed r masked (pump_count p) p x (omega (arith)) h

  either_passes : (t : Bool) (p : Pipe H v) (x : World H w v) → StandsFor r p x → StandsFor r (cond t (pumped p) (pumped (fetched (pumped p))))
      (passed_on (pump_count p) (cond t 0 (fetch_count (pumped p))) (cond t 0 (pump_count (fetched (pumped p)))) x)
  either_passes true p x h = subst (λ y. StandsFor r (pumped p) y) (none-again (pump_count p) x) (pumps p x h)
  either_passes false p x h =
      let first = pumps p x h in
      let out = stands_popped r masked (fetch_count (pumped p)) (pumped p) _ (omega (arith)) first in
      pumps (fetched (pumped p)) _ out

  -- a channel that represented a crossing represents it after the same moves
  pub passes : (p q : Pipe H v) → q ≡ passed p → (x : World H w v) → StandsFor r p x → StandsFor r q (after_pass_on p x)
  passes p q is x h =
      subst (λ q. StandsFor r q (after_pass_on p x)) (sym is) (either_passes (length (pumped p).stage == 0) p x h)
