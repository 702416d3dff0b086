-- Every list of events leads to a world: it is decidable whether an event is possible.
use Rattle.tl_ring.proofs.Names.{◌≡◌, ◌≤◌, ◌<◌, ◌-◌, ◌^◌, ℕ, suc, Bool, true, false, Option, None, Some, List, [], ◌∷◌, length, min, refl, ⊎_elim}
use Rattle.tl_ring.proofs.Names.{inl, inr, arith, ◌⊎◌, All, cases_lt, All-nil, All-cons, All-head, All-tail, IsWidth, IsBeat, Rules, BeatOf, IsHanded}
use Rattle.tl_ring.proofs.Names.{IsAdmitted, rest_of, fault_after, ChannelLaws, faults-exact, World, Event, offer, push, pop, take_one, close, effect}
use Rattle.tl_ring.proofs.Names.{IsPossible, inbox_room, Run, done, happens, fails, Crosses}
use Rattle.tl_lanes.specs.declared.limits.TheConstants.{WIDEST}
use Rattle.tl_ring.proofs.Crossings.{Crosses-effect}

-- it is so, or it is not
abbrev Known : Type 0 → Type 0
Known P = P ⊎ (P → ⊥)

both : {P Q : Type 0} → Known P → Known Q → Known (P × Q)
both (inl p) (inl q) = inl (p, q)
both (inl p) (inr never) = inr (λ pq. never pq.1)
both (inr never) q = inr (λ pq. never pq.0)

-- five facts, the last of which is decidable if the third holds
all_five : {P Q S T U : Type 0} → Known P → Known Q → Known S → Known T → (S → Known U) → Known (P × Q × S × T × U)
all_five (inl p) (inl q) (inl s) (inl t) u = ⊎_elim (λ last. inl (p, q, s, t, last)) (λ never. inr (λ all. never all.4)) (u s)
all_five (inl p) (inl q) (inl s) (inr never) u = inr (λ all. never all.3)
all_five (inl p) (inl q) (inr never) t u = inr (λ all. never all.2)
all_five (inl p) (inr never) s t u = inr (λ all. never all.1)
all_five (inr never) q s t u = inr (λ all. never all.0)

is_most : (a b : ℕ) → Known (a ≤ b)
is_most a b = ⊎_elim (λ (more : b < a). inr (λ (less : a ≤ b). omega arith)) (λ less. inl less) (cases_lt b a)

is_same : (a b : ℕ) → Known (a ≡ b)
is_same a b = ⊎_elim (λ less. ⊎_elim (λ more. inl (omega arith)) (λ never. inr (λ e. never (omega arith))) (is_most b a))
    (λ never. inr (λ e. never (omega arith))) (is_most a b)

is_empty : {X : Type 0} (xs : List X) → Known (xs ≡ [])
is_empty [] = inl refl
is_empty (x ∷ xs) = inr (λ (e : x ∷ xs ≡ []). absurd (cc))

is_false : (b : Bool) → Known (b ≡ false)
is_false true = inr (λ (e : true ≡ false). absurd (cc))
is_false false = inl refl

is_nothing : {X : Type 0} (o : Option X) → Known (o ≡ None)
is_nothing None = inl refl
is_nothing (Some x) = inr (λ (e : Some x ≡ None). absurd (cc))

are_bytes : (xs : List ℕ) → Known (All (λ byte. byte < 256) xs)
are_bytes [] = inl (All-nil (λ byte. byte < 256))
are_bytes (x ∷ xs) = ⊎_elim
    (λ first. ⊎_elim (λ others. inl (All-cons (λ byte. byte < 256) x xs first others))
    (λ never. inr (λ all. never (All-tail (λ byte. byte < 256) x xs all))) (are_bytes xs))
    (λ never. inr (λ all. never (All-head (λ byte. byte < 256) x xs all))) (is_most (suc x) 256)

module _ {H : Type 0} (r : Rules H) {w v : ℕ} (near : IsWidth w) (far : IsWidth v)
    (partial_masked : (h : H) → r.partial h ≡ true → r.masked ≡ true) (laws : ChannelLaws r) where
  -- a beat that memory can hold
  is_beat : (b : BeatOf H w) → Known (IsBeat r b)
  is_beat b = ⊎_elim
      (λ held. inl (record { address = held.0; lanes = held.1.0; bytes = held.1.1.0; mask = held.1.1.1 }))
      (λ never. inr (λ beat. never (beat.address, (beat.lanes, (beat.bytes, beat.mask)))))
      (both (is_most (suc (r.lane_address b.head 0)) (2 ^ 64))
      (both (is_same (length b.lanes) w) (both (are_bytes b.lanes) (is_most (suc b.mask) (2 ^ WIDEST)))))

  is_admitted : (bs : List (BeatOf H w)) (b : BeatOf H w) → IsHanded r bs → IsBeat r b → Known (IsAdmitted r bs b)
  is_admitted bs b handed beat =
      let exact = faults-exact r w near laws bs b handed beat in
      ⊎_elim (λ none. inl (exact.0 none)) (λ never. inr (λ admitted. never (exact.1 admitted))) (is_nothing (fault_after r bs b))

  is_possible : (x : World H w v) (e : Event H w) → Crosses r x → Known (IsPossible r x e)
  is_possible x (offer b home) c =
      all_five (is_false x.closed) (is_empty x.stage) (is_beat b) (is_most (suc (r.lane_address b.head home)) (2 ^ 64))
      (is_admitted x.accepted b (record { homes = x.homes; messages = c.messages; rest = c.rest; handed = c.handed }))
  is_possible x (push k) c = both (is_most 1 k) (is_most k (min (length x.stage) (x.room - length x.ring)))
  is_possible x (pop k) c = both (is_most 1 k) (is_most k (min (length x.ring) (inbox_room - length x.inbox)))
  is_possible x take_one c = is_most 1 (length x.inbox)
  is_possible x close c = both (is_false x.closed) (is_empty (rest_of r w x.accepted))

  pub leads : (es : List (Event H w)) (x : World H w v) → Crosses r x → (y : World H w v) × Run r x es y
  leads [] x c = (x, done x)
  leads (e ∷ es) x c = ⊎_elim
      (λ possible. let after = leads es (effect r x e) (Crosses-effect r near far partial_masked laws x e possible c) in
      (after.0, happens x after.0 e es possible after.1))
      (λ never. let after = leads es x c in (after.0, fails x after.0 e es never after.1))
      (is_possible x e c)
