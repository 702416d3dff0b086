-- The byte of a message that is on a lane of a beat.
use Rattle.tl_burst.proofs.Names.{◌≡◌, ◌≤◌, ◌<◌, ◌+◌, ◌*◌, ◌/◌, ◌%◌, ◌^◌, ◌≢◌, ◌==◌, ◌&&◌, ℕ, zero, suc, Bool, true, false, cond, None, Some, find}
use Rattle.tl_burst.proofs.Names.{refl, sym, subst, ◌∙◌, arith, rules, ⊎_elim, range_with_len, eqb_tells, mod-add-div, mod-lt, IsWidth, lane_of}
use Rattle.tl_burst.proofs.Names.{lanes_differ, width_bounds, Rules, Message, byte_on, per_beat}
use Rattle.std.proofs.lemmas.Grind.{common_steps}

-- the first number of a range that passes a test
pub find-range : (p : ℕ → Bool) (a n i : ℕ) → a ≤ i → i < a + n → p i ≡ true → ((x : ℕ) → a ≤ x → x < i → p x ≡ false) →
    find p (range_with_len a n) ≡ Some i
find-range p a zero i lo hi pass before = absurd (omega arith)
find-range p a (suc n) i lo hi pass before =
    ⊎_elim
    (λ s. let P : ℕ → Type 0 = λ x. cond (p x) (Some x) (find p (range_with_len (a + 1) n)) ≡ Some i in
    subst P s.1 (rw pass refl))
    (λ s. let ne : i ≢ a = s.1 in
    let miss_a : p a ≡ false = before a (omega arith) (omega arith) in
    rw miss_a (find-range p (a + 1) n i (omega arith) (omega arith) pass (λ x l h. before x (omega arith) h)))
    (eqb_tells i a)

pub find-range-none : (p : ℕ → Bool) (a n : ℕ) → ((x : ℕ) → a ≤ x → x < a + n → p x ≡ false) → find p (range_with_len a n) ≡ None
find-range-none p a zero none_of = refl
find-range-none p a (suc n) none_of =
    let miss_a : p a ≡ false = none_of a (omega arith) (omega arith) in
    rw miss_a (find-range-none p (a + 1) n (λ x l h. none_of x (omega arith) (omega arith)))

-- bytes of one beat are less than a beat apart
pub beat-near : (p x y : ℕ) → 0 < p → x / p ≡ y / p → y < x + p
beat-near p x y pos e =
    let ex : x % p + p * (x / p) ≡ x = mod-add-div x p in
    let ey : y % p + p * (y / p) ≡ y = mod-add-div y p in
    let ez : y % p + p * (x / p) ≡ y = rw e ey in
    let lt : y % p < p = mod-lt y pos in
    omega arith

-- the two tests of a place
places-true : (a b c d : ℕ) → a ≡ b → c ≡ d → ((a == b) && (c == d)) ≡ true
places-true a b c d e f = grind (arith, common_steps)

places-false : (a b c d : ℕ) → (a ≡ b → c ≡ d → ⊥) → ((a == b) && (c == d)) ≡ false
places-false a b c d never =
    ⊎_elim
    (λ s. ⊎_elim (λ q. absurd (never s.1 q.1)) (λ q. rw (s.0, q.0) refl) (eqb_tells c d))
    (λ s. rw s.0 refl)
    (eqb_tells a b)

module _ {H : Type 0} (r : Rules H) (m : Message H) (w : ℕ) (width : IsWidth w) where
  pub per-pos : 0 < per_beat r m.head w
  per-pos = let b = width_bounds w width in
      let q : 0 < 2 ^ r.size m.head = search rules in omega arith

  pub per-le : per_beat r m.head w ≤ w
  per-le = omega arith

  -- byte i is the one on its lane of its beat
  pub byte_on-some : (i j l : ℕ) → i < 2 ^ r.size m.head → i / per_beat r m.head w ≡ j → lane_of m.home i w ≡ l →
      byte_on r m w j l ≡ Some i
  byte_on-some i j l lt ej el =
      find-range (λ x. (x / per_beat r m.head w == j) && (lane_of m.home x w == l)) 0 (2 ^ r.size m.head) i (omega arith) (omega arith)
      (places-true _ _ _ _ ej el)
      (λ x lo hi. places-false _ _ _ _ (λ fj fl.
      let near : i < x + per_beat r m.head w = beat-near (per_beat r m.head w) x i per-pos (fj ∙ sym ej) in
      let le : per_beat r m.head w ≤ w = per-le in
      lanes_differ m.home x i w width hi (omega arith) (fl ∙ sym el)))

  -- the lane has no byte of the beat
  pub byte_on-none : (j l : ℕ) → ((i : ℕ) → i < 2 ^ r.size m.head → i / per_beat r m.head w ≡ j → lane_of m.home i w ≡ l → ⊥) →
      byte_on r m w j l ≡ None
  byte_on-none j l never =
      find-range-none (λ x. (x / per_beat r m.head w == j) && (lane_of m.home x w == l)) 0 (2 ^ r.size m.head)
      (λ x lo hi. places-false _ _ _ _ (λ fj fl. never x (omega arith) fj fl))
