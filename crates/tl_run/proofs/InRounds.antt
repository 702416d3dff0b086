-- A round of a run is the one that the definitions compute.
use Rattle.tl_run.proofs.Names.{◌≡◌, ◌≢◌, ◌⊎◌, ◌==◌, ◌&&◌, ℕ, Bool, true, false, Option, None, Some, List, [], ◌∷◌, length, inl, inr}
use Rattle.tl_run.proofs.Names.{refl, sym, ap, ◌∙◌, arith, slice_get, if◌then◌else◌, Rules, BeatOf, SideFault, World, shut, rest_of, not_equal}
use Rattle.tl_run.proofs.Names.{Does, Offered, Accepted, NotReady, Stopped, Done, Cut, Refused, PerChannel, Beats, Bridge, Past, HasOffered, after_take_all}
use Rattle.tl_run.proofs.Names.{rules_a, rules_b, rules_c, rules_d, rules_e, client_answer, manager_answer, manager_home, stops_alone}
use Rattle.std.specs.Prelude.{not}
use Rattle.tl_offer.specs.Offering.{IsOffered}
use Rattle.tl_run.specs.InRounds.{AfterOffer, after_beat, after_moves, after_offer, after_round, counted}
use Rattle.tl_run.specs.Inner.Running.{MayOffer}

-- ---- one channel

-- a list that isn't empty has a length
some-length : {A : Type 0} (xs : List A) → xs ≢ [] → (length xs == 0) ≡ false
some-length [] some = absurd (some refl)
some-length (x ∷ xs) some = not_equal (length (x ∷ xs)) 0 (λ e. omega (arith, e))

-- a channel that may not offer
not-ready : {A : Type 0} (stage : List A) (closed : Bool) → (stage ≢ []) ⊎ (closed ≡ true) → ((length stage == 0) && not closed) ≡ false
not-ready [] closed (inl some) = absurd (some refl)
not-ready (b ∷ bs) closed (inl some) = ap (λ q. q && not closed) (some-length (b ∷ bs) some)
not-ready [] true (inr shut) = refl
not-ready [] false (inr shut) = cc
not-ready (b ∷ bs) closed (inr shut) = ap (λ q. q && not closed) (some-length (b ∷ bs) (λ e. cc))

-- one that may
is-ready : {A : Type 0} (stage : List A) (closed : Bool) → stage ≡ [] → closed ≡ false → ((length stage == 0) && not closed) ≡ true
is-ready stage closed none not-shut = rw (none, not-shut) refl

no-length : {A : Type 0} (xs : List A) → xs ≡ [] → (length xs == 0) ≡ true
no-length xs none = rw none refl

module _ {H : Type 0} (r : Rules H) {w v : ℕ} (bs : List (BeatOf H w)) (n : ℕ) (stops : BeatOf H w → Option SideFault) (home : BeatOf H w → ℕ)
    (x : World H w v) where
  abbrev pub turned : Offered → List (BeatOf H w) → World H w v → AfterOffer H w v
  turned o accepted y = record { outcome = o; accepted = accepted; crossing = y }

  both : (o : Offered) {bs cs : List (BeatOf H w)} {y z : World H w v} → cs ≡ bs → z ≡ y → turned o bs y ≡ turned o cs z
  both o {cs = cs} {y = y} is made = ap (λ q. turned o q y) (sym is) ∙ ap (λ q. turned o cs q) (sym made)

  -- a beat is left
  with-beat : (b : BeatOf H w) → slice_get bs n ≡ Some b → after_offer r home x stops (slice_get bs n) ≡ after_offer r home x stops (Some b)
  with-beat b g = ap (λ q. after_offer r home x stops q) g

  -- and it is offered
  with-offer : (b : BeatOf H w) → slice_get bs n ≡ Some b → MayOffer x →
      after_offer r home x stops (slice_get bs n) ≡ after_beat r home x b (stops b)
  with-offer b g may =
      with-beat b g ∙ ap (λ q. if q then after_beat r home x b (stops b) else turned NotReady [] x) (is-ready x.stage x.closed may.0 may.1)

  -- none is left
  with-none : (q : Bool) → slice_get bs n ≡ None → (length (rest_of r w x.accepted) == 0) ≡ q →
      after_offer r home x stops (slice_get bs n) ≡ (if q then turned (Stopped Done) [] (shut x) else turned (Stopped Cut) [] x)
  with-none q g e =
      ap (λ p. after_offer r home x stops p) g ∙ ap (λ p. if p then turned (Stopped Done) [] (shut x) else turned (Stopped Cut) [] x) e

  -- what becomes of the next beat is what is computed
  pub offer-is : (o : Offered) (accepted : List (BeatOf H w)) (y : World H w v) → Does r bs n stops home x o accepted y → (IsOffered o → MayOffer x) →
      after_offer r home x stops (slice_get bs n) ≡ turned o accepted y
  offer-is Accepted accepted y (b, g, none, one, made) ready =
      with-offer b g (ready tt) ∙ ap (λ q. after_beat r home x b q) none ∙ both Accepted one made
  offer-is NotReady accepted y (b, g, full, none, made) ready =
      with-beat b g ∙ ap (λ q. if q then after_beat r home x b (stops b) else turned NotReady [] x) (not-ready x.stage x.closed full) ∙
      both NotReady none made
  offer-is (Stopped (Refused fault)) accepted y (b, g, is, none, made) ready =
      with-offer b g (ready tt) ∙ ap (λ q. after_beat r home x b q) is ∙ both (Stopped (Refused fault)) none made
  offer-is (Stopped Done) accepted y (past, rest, none, made) ready =
      with-none true past (no-length _ rest) ∙ both (Stopped Done) none made
  offer-is (Stopped Cut) accepted y (past, rest, none, made) ready =
      with-none false past (some-length _ rest) ∙ both (Stopped Cut) none made

-- ---- the five channels

module _ {C M : ℕ} (near : Beats C M) (n : PerChannel ℕ) (x : Past C M) (s : Bridge C M) (o : PerChannel Offered)
    (h : HasOffered near n (after_take_all x) s o) where
  -- the offers of a round, and the moves of the rings after them
  pub round-is : after_round near n x ≡ record { at = counted n o; offers = o; past = after_moves h.past }
  round-is =
      let z = after_take_all x in
      rw (
        offer-is rules_a near.a n.a (client_answer z.client) (λ _. 0) z.a o.a h.beats_a h.past.a h.does_a h.ready_a,
        offer-is rules_b near.b n.b (stops_alone rules_b z.b.accepted) (λ _. 0) z.b o.b h.beats_b h.past.b h.does_b h.ready_b,
        offer-is rules_c near.c n.c (stops_alone rules_c z.c.accepted) (λ _. 0) z.c o.c h.beats_c h.past.c h.does_c h.ready_c,
        offer-is rules_d near.d n.d (manager_answer z.manager) (λ y. manager_home z.manager y.head) z.d o.d h.beats_d h.past.d h.does_d h.ready_d,
        offer-is rules_e near.e n.e (stops_alone rules_e z.e.accepted) (λ _. 0) z.e o.e h.beats_e h.past.e h.does_e h.ready_e,
        h.client,
        h.manager,
      ) refl
